-- No station of the document that describes an accepted plan breaks a rule on keys, kinds and ranges.
use Rattle.std.proofs.Common.{◌≡◌, ◌≢◌, ◌≤◌, inl, inr, ℕ, Bool, true, false, cond, ◌&&◌, List, [], get_or, Option, Some, None, arith, refl, sym, ◌∙◌, subst, codes}
use Rattle.std.specs.Prelude.{is_some}
use Rattle.std.proofs.lemmas.Bool.{cases_eq, and_parts, false≢true}
use Rattle.std.proofs.lemmas.Bool.Decides.{nat_tests}
use Rattle.bus_formats.specs.Accepted.{HasStationRanges}
use Rattle.bus_formats.specs.Plans.{StationData}
use Rattle.bus_formats.specs.declared.plan.SubsystemKind.{SubsystemKind}
use Rattle.bus_formats.specs.declared.plan.SubsystemKind.TheVariants.{Recorder, Tally}
use Rattle.bus_plan.specs.Described.{number, frame_members, load_members, station_members}
use Rattle.bus_plan.specs.Document.{number_within, lies_in}
use Rattle.bus_plan.specs.Ranges.{terminal_range, controller_range, delay_range, word_range, repeat_range}
use Rattle.bus_plan.specs.Rows.{RowData, rows_from, rows_of, station_rows, terminal_rows, controller_rows}
use Rattle.bus_plan.specs.Rules.{in_table}
use Rattle.bus_plan.specs.Tables.{EachMember, KeepsRows, EachInFrame, EachInStation}
use Rattle.bus_plan.specs.declared.rows.Refusable.TheVariants.{Subaddresses, ModeCodes}
use Rattle.bus_plan.specs.declared.rows.Shape.TheVariants.{Flag, Number, Word, Refusals, Tables}
use Rattle.bus_plan.specs.declared.rows.TableKind.TheVariants as kinds
use Rattle.bus_plan.specs.declared.rows.Words.TheVariants as words
use Rattle.bus_plan.specs.declared.rules.Rule.{Rule}
use Rattle.bus_plan.specs.declared.rules.Rule.TheVariants.{Missing}
use Rattle.bus_plan.proofs.DescribedFits.{Fits, rows-kept, fit-number, fit-flag, fit-word, fit-channel, fit-subs, fit-codes, fit-tables, all-made}
use Rattle.bus_plan.proofs.DescribedStations.{IsFit, some-alone}
use Rattle.bus_plan.proofs.RangeLaws.{IsIn}
use Rattle.bus_plan.proofs.DescribedRows.{second, IsKept, load-kept, frame-tables}

-- the address of a station fits the rows that are chosen by it
abbrev Alone : Bool → ℕ → Bool
Alone last a = last && is_some (number_within controller_range (Some (number a)))

within-31 : (a : ℕ) (b : Bool) → lies_in controller_range a ≡ b → is_some (cond {A = Option ℕ} b (Some a) None) ≡ true → a ≡ 31
within-31 a true e h = grind (arith, nat_tests, e)
within-31 a false e h = absurd (false≢true h)

not-31 : (a : ℕ) → is_some (number_within controller_range (Some (number a))) ≡ false → a ≢ 31
not-31 a h e = false≢true (sym h ∙ subst (λ n. is_some (number_within controller_range (Some (number n))) ≡ true) (sym e) refl)

is-31 : (last : Bool) (a : ℕ) → Alone last a ≡ true → a ≡ 31
is-31 last a h = within-31 a (lies_in controller_range a) refl (and_parts last (is_some (number_within controller_range (Some (number a)))) h).1

below-31 : (last : Bool) (a : ℕ) → a ≤ 31 → (a ≡ 31 → last ≡ true) → Alone last a ≡ false → a ≤ 30
below-31 last a most starts h =
    elim (cases_eq a 31) [
      | inl e ↦
          let there : Alone last a ≡ true = rw (starts e) (subst (λ n. is_some (number_within controller_range (Some (number n))) ≡ true) (sym e) refl) in
          absurd (false≢true (sym h ∙ there))
      | inr ne ↦ omega (arith, most, ne)
    ]

abbrev terminal_as : StationData → Option SubsystemKind → StationData
terminal_as s o = record { terminal = record s.terminal { subsystem = o }; channel = s.channel; frames = s.frames; repeat = s.repeat }

abbrev own_rows : Bool → List RowData
own_rows b = cond b controller_rows terminal_rows

controller-fits : (last : Bool) (s : StationData) → HasStationRanges s → IsIn controller_range s.terminal.address
    → EachMember (Fits (second last) (rows_from station_rows controller_rows)) (station_members (terminal_as s None))
controller-fits last s h a = (
  (Flag, refl, fit-flag s.terminal.accepts),
  (
    (Number controller_range, refl, fit-number controller_range s.terminal.address a),
    (
      (Number word_range, refl, fit-number word_range s.terminal.bit (omega arith, omega (arith, h.terminal.bit))),
      (
        (Flag, refl, fit-flag s.terminal.busy),
        (
          (Word words.Channels, refl, fit-channel s.channel),
          (
            (Number delay_range, refl, fit-number delay_range s.terminal.delay h.terminal.delay),
            (
              (Tables, refl, fit-tables frame_members s.frames),
              (
                (Tables, refl, fit-tables load_members s.terminal.loads),
                (
                  (Refusals ModeCodes, refl, fit-codes s.terminal.no_mode h.terminal.no_mode),
                  (
                    (Refusals Subaddresses, refl, fit-subs s.terminal.no_receive h.terminal.no_receive),
                    (
                      (Refusals Subaddresses, refl, fit-subs s.terminal.no_transmit h.terminal.no_transmit),
                      (
                        (Number repeat_range, refl, fit-number repeat_range s.repeat h.repeat),
                        (
                          (Flag, refl, fit-flag s.terminal.service),
                          (
                            (Flag, refl, fit-flag s.terminal.subsystem_flag),
                            (
                              (Flag, refl, fit-flag s.terminal.terminal_flag),
                              (
                                (Number word_range, refl, fit-number word_range s.terminal.vector (omega arith, omega (arith, h.terminal.vector))),
                                tt,
                              ),
                            ),
                          ),
                        ),
                      ),
                    ),
                  ),
                ),
              ),
            ),
          ),
        ),
      ),
    ),
  ),
)

terminal-fits : (last : Bool) (s : StationData) (o : Option SubsystemKind) → HasStationRanges s → IsIn terminal_range s.terminal.address
    → EachMember (Fits (second last) (rows_from station_rows terminal_rows)) (station_members (terminal_as s o))
terminal-fits last s None h a = (
  (Flag, refl, fit-flag s.terminal.accepts),
  (
    (Number terminal_range, refl, fit-number terminal_range s.terminal.address a),
    (
      (Number word_range, refl, fit-number word_range s.terminal.bit (omega arith, omega (arith, h.terminal.bit))),
      (
        (Flag, refl, fit-flag s.terminal.busy),
        (
          (Word words.Channels, refl, fit-channel s.channel),
          (
            (Number delay_range, refl, fit-number delay_range s.terminal.delay h.terminal.delay),
            (
              (Tables, refl, fit-tables frame_members s.frames),
              (
                (Tables, refl, fit-tables load_members s.terminal.loads),
                (
                  (Refusals ModeCodes, refl, fit-codes s.terminal.no_mode h.terminal.no_mode),
                  (
                    (Refusals Subaddresses, refl, fit-subs s.terminal.no_receive h.terminal.no_receive),
                    (
                      (Refusals Subaddresses, refl, fit-subs s.terminal.no_transmit h.terminal.no_transmit),
                      (
                        (Number repeat_range, refl, fit-number repeat_range s.repeat h.repeat),
                        (
                          (Flag, refl, fit-flag s.terminal.service),
                          (
                            (Flag, refl, fit-flag s.terminal.subsystem_flag),
                            (
                              (Flag, refl, fit-flag s.terminal.terminal_flag),
                              (
                                (Number word_range, refl, fit-number word_range s.terminal.vector (omega arith, omega (arith, h.terminal.vector))),
                                tt,
                              ),
                            ),
                          ),
                        ),
                      ),
                    ),
                  ),
                ),
              ),
            ),
          ),
        ),
      ),
    ),
  ),
)
terminal-fits last s (Some Recorder) h a = (
  (Flag, refl, fit-flag s.terminal.accepts),
  (
    (Number terminal_range, refl, fit-number terminal_range s.terminal.address a),
    (
      (Number word_range, refl, fit-number word_range s.terminal.bit (omega arith, omega (arith, h.terminal.bit))),
      (
        (Flag, refl, fit-flag s.terminal.busy),
        (
          (Word words.Channels, refl, fit-channel s.channel),
          (
            (Number delay_range, refl, fit-number delay_range s.terminal.delay h.terminal.delay),
            (
              (Tables, refl, fit-tables frame_members s.frames),
              (
                (Tables, refl, fit-tables load_members s.terminal.loads),
                (
                  (Refusals ModeCodes, refl, fit-codes s.terminal.no_mode h.terminal.no_mode),
                  (
                    (Refusals Subaddresses, refl, fit-subs s.terminal.no_receive h.terminal.no_receive),
                    (
                      (Refusals Subaddresses, refl, fit-subs s.terminal.no_transmit h.terminal.no_transmit),
                      (
                        (Number repeat_range, refl, fit-number repeat_range s.repeat h.repeat),
                        (
                          (Flag, refl, fit-flag s.terminal.service),
                          (
                            (Word words.Subsystems, refl, fit-word words.Subsystems (codes "recorder") refl),
                            (
                              (Flag, refl, fit-flag s.terminal.subsystem_flag),
                              (
                                (Flag, refl, fit-flag s.terminal.terminal_flag),
                                (
                                  (Number word_range, refl, fit-number word_range s.terminal.vector (omega arith, omega (arith, h.terminal.vector))),
                                  tt,
                                ),
                              ),
                            ),
                          ),
                        ),
                      ),
                    ),
                  ),
                ),
              ),
            ),
          ),
        ),
      ),
    ),
  ),
)
terminal-fits last s (Some Tally) h a = (
  (Flag, refl, fit-flag s.terminal.accepts),
  (
    (Number terminal_range, refl, fit-number terminal_range s.terminal.address a),
    (
      (Number word_range, refl, fit-number word_range s.terminal.bit (omega arith, omega (arith, h.terminal.bit))),
      (
        (Flag, refl, fit-flag s.terminal.busy),
        (
          (Word words.Channels, refl, fit-channel s.channel),
          (
            (Number delay_range, refl, fit-number delay_range s.terminal.delay h.terminal.delay),
            (
              (Tables, refl, fit-tables frame_members s.frames),
              (
                (Tables, refl, fit-tables load_members s.terminal.loads),
                (
                  (Refusals ModeCodes, refl, fit-codes s.terminal.no_mode h.terminal.no_mode),
                  (
                    (Refusals Subaddresses, refl, fit-subs s.terminal.no_receive h.terminal.no_receive),
                    (
                      (Refusals Subaddresses, refl, fit-subs s.terminal.no_transmit h.terminal.no_transmit),
                      (
                        (Number repeat_range, refl, fit-number repeat_range s.repeat h.repeat),
                        (
                          (Flag, refl, fit-flag s.terminal.service),
                          (
                            (Word words.Subsystems, refl, fit-word words.Subsystems (codes "tally") refl),
                            (
                              (Flag, refl, fit-flag s.terminal.subsystem_flag),
                              (
                                (Flag, refl, fit-flag s.terminal.terminal_flag),
                                (
                                  (Number word_range, refl, fit-number word_range s.terminal.vector (omega arith, omega (arith, h.terminal.vector))),
                                  tt,
                                ),
                              ),
                            ),
                          ),
                        ),
                      ),
                    ),
                  ),
                ),
              ),
            ),
          ),
        ),
      ),
    ),
  ),
)

station-fits : (last : Bool) (s : StationData) (o : Option SubsystemKind) (b : Bool) → Alone last s.terminal.address ≡ b → HasStationRanges s
    → IsFit (second last) s.terminal.address o
    → EachMember (Fits (second last) (rows_from station_rows (own_rows b))) (station_members (terminal_as s o))
station-fits last s o false e h f =
    terminal-fits last s o h (omega arith, below-31 last s.terminal.address h.terminal.address f.starts e)
station-fits last s None true e h f =
    let same : s.terminal.address ≡ 31 = is-31 last s.terminal.address e in
    controller-fits last s h (omega (arith, same), omega (arith, same))
station-fits last s (Some k) true e h f = absurd (some-alone k (f.alone (is-31 last s.terminal.address e)))

-- the rows of a station by its address
station-rows : (last : Bool) (s : StationData) (b : Bool) → Alone last s.terminal.address ≡ b
    → in_table (second last) Missing (rows_from station_rows (own_rows b)) [] (station_members s) ≡ None
station-rows last s true e = refl
station-rows last s false e = refl

station-kept : (last : Bool) (s : StationData) → HasStationRanges s → IsFit (second last) s.terminal.address s.terminal.subsystem
    → IsKept kinds.Station last (station_members s)
station-kept last s h f =
    rows-kept (second last) (rows_from station_rows (own_rows (Alone last s.terminal.address))) (station_members s)
    (station-fits last s s.terminal.subsystem (Alone last s.terminal.address) refl h f)
    (station-rows last s (Alone last s.terminal.address) refl)

pub station-tables : (rule : Rule) (last : Bool) (s : StationData) → HasStationRanges s → IsFit (second last) s.terminal.address s.terminal.subsystem
    → EachInStation (λ kind ms. KeepsRows rule (second last) (rows_of kind (second last) ms) ms) (station_members s)
station-tables rule last s h f = record {
  own = station-kept last s h f rule;
  loads = all-made (λ ms. KeepsRows rule (second last) (rows_of kinds.Load (second last) ms) ms) load_members s.terminal.loads
      (λ k d within. load-kept last (get_or s.terminal.loads k d) (h.terminal.loads k d within) rule);
  frames = all-made (EachInFrame (λ kind ms. KeepsRows rule (second last) (rows_of kind (second last) ms) ms)) frame_members s.frames
      (λ k d within. frame-tables rule last (get_or s.frames k d) (h.frames k d within));
}
