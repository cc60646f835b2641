-- Each accepted plan is read from the document that describes it, and from each text that writes this document.
use Rattle.std.proofs.Common.{◌≡◌, ℕ, Bool, true, List, [], get_or, Some, None, arith, refl, sym, ap, ◌∙◌, subst, codes}
use Rattle.std.specs.Prelude.{is_some}
use Rattle.std.proofs.lemmas.Bool.{false≢true}
use Rattle.toml.specs.Data.{Members}
use Rattle.bus_base.specs.Flips.{IsDetectable}
use Rattle.bus_base.specs.Positions.{IsBetween, set_of}
use Rattle.bus_base.specs.declared.samples.Part.{Part}
use Rattle.bus_base.specs.declared.samples.Part.TheVariants.{Command, First, Second}
use Rattle.bus_formats.specs.Accepted.{HasHitRanges, HasFaultRanges, IsAccepted}
use Rattle.bus_formats.specs.Plans.{PlanData}
use Rattle.bus_formats.specs.declared.fault.Fault.{Fault}
use Rattle.bus_formats.specs.declared.fault.Hit.{Hit}
use Rattle.bus_formats.specs.declared.fault.Hit.TheVariants.{Flip, Cut, Extra, Fade}
use Rattle.bus_plan.specs.DecodeFaults.{positions_at}
use Rattle.bus_plan.specs.Described.{number, items_of, positions_taken, station_members, fault_members, document_with}
use Rattle.bus_plan.specs.Document.{number_within}
use Rattle.bus_plan.specs.PlanOf.{head_of}
use Rattle.bus_plan.specs.PlanRules.{IsReadAs}
use Rattle.bus_plan.specs.Positions.{may_stand, positions_of}
use Rattle.bus_plan.specs.Ranges.{version_range, address_range, controller_range, attempt_range, struck_range, after_range, command_after_range, extra_range, flip_range, fade_range}
use Rattle.bus_plan.specs.Rows.{has_text, rows_of}
use Rattle.bus_plan.specs.Rules.{in_table}
use Rattle.bus_plan.specs.Tables.{EachMember, EachInStation, KeepsRows, KeepsRule}
use Rattle.bus_plan.specs.declared.rows.Shape.TheVariants.{Number, Word, Positions, Tables}
use Rattle.bus_plan.specs.declared.rows.TableKind.TheVariants as kinds
use Rattle.bus_plan.specs.declared.rows.Words.TheVariants as words
use Rattle.bus_plan.specs.declared.rules.Rule.{Rule}
use Rattle.bus_plan.specs.declared.rules.Rule.TheVariants.{Missing}
use Rattle.bus_plan.proofs.DescribedFaults.{flip-read, fade-read, flip-stands, fade-stands, stations-fit, plan-read, start-small}
use Rattle.bus_plan.proofs.DescribedFits.{Fits, rows-kept, fit-number, fit-word, fit-part, fit-positions, fit-tables, all-made}
use Rattle.bus_plan.proofs.DescribedRows.{second, IsKept}
use Rattle.bus_plan.proofs.DescribedStationRows.{station-tables}

-- ---- faults

flip-there : (part : Part) (word : ℕ) (set : List Bool) → HasHitRanges part (Flip word set)
    → may_stand flip_range 40 (positions_of (items_of number (positions_taken 0 set))) ≡ true
flip-there part word set (w, (ps, d, e)) = ap (may_stand flip_range 40) (flip-read set ps d e) ∙ flip-stands ps d

fade-there : (part : Part) (word : ℕ) (set : List Bool) → HasHitRanges part (Fade word set)
    → may_stand fade_range 3 (positions_of (items_of number (positions_taken 0 set))) ≡ true
fade-there part word set (w, (ps, d, e)) = ap (may_stand fade_range 3) (fade-read set ps d e) ∙ fade-stands ps d

fault-fits : (last : Bool) (attempt : ℕ) (part : Part) (hit : Hit) → IsBetween 1 1000000 attempt → HasHitRanges part hit
    → EachMember (Fits (second last) (rows_of kinds.Fault (second last) (fault_members attempt part hit))) (fault_members attempt part hit)
fault-fits last attempt part (Flip word set) a h = (
  (Positions flip_range 40, refl, fit-positions flip_range 40 (positions_taken 0 set) (flip-there part word set h)),
  (
    (Number attempt_range, refl, fit-number attempt_range attempt a),
    (
      (Word words.KindsWithFade, refl, fit-word words.KindsWithFade (codes "flip") refl),
      (
        (Word words.Parts, refl, fit-part part),
        (
          (Number struck_range, refl, fit-number struck_range word (omega arith, h.0)),
          tt,
        ),
      ),
    ),
  ),
)
fault-fits last attempt part (Fade word set) a h = (
  (Positions fade_range 3, refl, fit-positions fade_range 3 (positions_taken 0 set) (fade-there part word set h)),
  (
    (Number attempt_range, refl, fit-number attempt_range attempt a),
    (
      (Word words.KindsWithFade, refl, fit-word words.KindsWithFade (codes "fade") refl),
      (
        (Word words.Parts, refl, fit-part part),
        (
          (Number struck_range, refl, fit-number struck_range word (omega arith, h.0)),
          tt,
        ),
      ),
    ),
  ),
)
fault-fits last attempt part (Extra n) a h = (
  (Number attempt_range, refl, fit-number attempt_range attempt a),
  (
    (Word words.KindsWithFade, refl, fit-word words.KindsWithFade (codes "extra") refl),
    (
      (Word words.Parts, refl, fit-part part),
      (
        (Number extra_range, refl, fit-number extra_range n h),
        tt,
      ),
    ),
  ),
)
fault-fits last attempt Command (Cut after) a h = (
  (Number command_after_range, refl, fit-number command_after_range after h),
  (
    (Number attempt_range, refl, fit-number attempt_range attempt a),
    (
      (Word words.KindsWithFade, refl, fit-word words.KindsWithFade (codes "cut") refl),
      (
        (Word words.Parts, refl, fit-part Command),
        tt,
      ),
    ),
  ),
)
fault-fits last attempt First (Cut after) a h = (
  (Number after_range, refl, fit-number after_range after h),
  (
    (Number attempt_range, refl, fit-number attempt_range attempt a),
    (
      (Word words.KindsWithFade, refl, fit-word words.KindsWithFade (codes "cut") refl),
      (
        (Word words.Parts, refl, fit-part First),
        tt,
      ),
    ),
  ),
)
fault-fits last attempt Second (Cut after) a h = (
  (Number after_range, refl, fit-number after_range after h),
  (
    (Number attempt_range, refl, fit-number attempt_range attempt a),
    (
      (Word words.KindsWithFade, refl, fit-word words.KindsWithFade (codes "cut") refl),
      (
        (Word words.Parts, refl, fit-part Second),
        tt,
      ),
    ),
  ),
)

fault-there : (last : Bool) (attempt : ℕ) (part : Part) (hit : Hit)
    → in_table (second last) Missing (rows_of kinds.Fault (second last) (fault_members attempt part hit)) [] (fault_members attempt part hit) ≡ None
fault-there last attempt part (Flip word set) = refl
fault-there last attempt part (Fade word set) = refl
fault-there last attempt part (Extra n) = refl
fault-there last attempt Command (Cut after) = refl
fault-there last attempt First (Cut after) = refl
fault-there last attempt Second (Cut after) = refl

abbrev table_of : Fault → Members
table_of f = fault_members f.attempt f.part f.hit

fault-kept : (last : Bool) (f : Fault) → HasFaultRanges f → IsKept kinds.Fault last (table_of f)
fault-kept last f h =
    rows-kept (second last) (rows_of kinds.Fault (second last) (table_of f)) (table_of f) (fault-fits last f.attempt f.part f.hit h.attempt h.hit)
    (fault-there last f.attempt f.part f.hit)

-- a flip of an accepted plan can be detected
abbrev IsFine : Members → Type 0
IsFine ms = has_text (codes "kind") (codes "flip") ms ≡ true → may_stand flip_range 40 (positions_at ms) ≡ true → IsDetectable (positions_at ms)

flip-fine : (set : List Bool) (ps : List ℕ) → IsDetectable ps → set ≡ set_of ps → IsDetectable (positions_of (items_of number (positions_taken 0 set)))
flip-fine set ps d e = subst IsDetectable (sym (flip-read set ps d e)) d

fine-with : (attempt : ℕ) (part : Part) (hit : Hit) → HasHitRanges part hit → IsFine (fault_members attempt part hit)
fine-with attempt part (Flip word set) (w, (ps, d, e)) is stands = flip-fine set ps d e
fine-with attempt part (Fade word set) h is stands = absurd (false≢true is)
fine-with attempt part (Cut after) h is stands = absurd (false≢true is)
fine-with attempt part (Extra n) h is stands = absurd (false≢true is)

fine : (f : Fault) → HasFaultRanges f → IsFine (table_of f)
fine f h = fine-with f.attempt f.part f.hit h.hit

-- ---- the document

module _ (p : PlanData) (h : IsAccepted p) where
  abbrev Last : Bool
  Last = is_some (number_within controller_range (Some (number p.start)))

  root-kept : IsKept kinds.Root Last (document_with p)
  root-kept =
      rows-kept (second Last) (rows_of kinds.Root (second Last) (document_with p)) (document_with p) (
        (Tables, refl, fit-tables table_of p.faults),
        (
          (Number address_range, refl, fit-number address_range p.start (omega arith, start-small p.stations p.start h.ranges h.start)),
          (
            (Tables, refl, fit-tables station_members p.stations),
            (
              (Number version_range, refl, fit-number version_range 2 (omega arith, omega arith)),
              tt,
            ),
          ),
        ),
      )
      refl

  keys-kept : (rule : Rule) → KeepsRule rule (head_of (document_with p)) (document_with p)
  keys-kept rule = record {
    own = root-kept rule;
    stations = all-made (EachInStation (λ kind ms. KeepsRows rule (second Last) (rows_of kind (second Last) ms) ms)) station_members p.stations
        (λ k d within. station-tables rule Last (get_or p.stations k d) (h.ranges k d within) (stations-fit p h k d within));
    faults = all-made (λ ms. KeepsRows rule (second Last) (rows_of kinds.Fault (second Last) ms) ms) table_of p.faults
        (λ k d within. fault-kept Last (get_or p.faults k d) (h.hits k d within) rule);
  }

  pub read-described : IsReadAs (document_with p) p
  read-described = record {
    keys = keys-kept;
    described = plan-read p h;
    flips = all-made IsFine table_of p.faults (λ k d within. fine (get_or p.faults k d) (h.hits k d within));
    accepted = h;
    frames = h.limits.frames;
  }
