-- How many commands were begun: a part that is a command adds one, all else none.
use Rattle.std.proofs.Common.{◌≡◌, ◌≢◌, inl, inr, ℕ, zero, suc, ◌+◌, ◌-◌, ◌*◌, ◌≤◌, Bool, true, false, ◌==◌, List, [], ◌∷◌, ◌++◌, length, Some, refl, ap, ◌∙◌, arith, length-append}
use Rattle.std.proofs.lemmas.Bool.{cases_eq, cases_lt}
use Rattle.std.proofs.lemmas.List.Sums.{sum_by-cons}
use Rattle.std.proofs.lemmas.Option.{none-some, same_Some}
use Rattle.std.specs.Prelude.{not, ◌&&◌, if◌then◌else◌, slice_get, count_by, find}
use Rattle.std.specs.List.{list_any}
use Rattle.bus_base.specs.Samples.{same_part}
use Rattle.bus_base.specs.declared.samples.Channel.{Channel}
use Rattle.bus_base.specs.declared.samples.Part.{Part}
use Rattle.bus_base.specs.declared.samples.Part.TheVariants.{Command, First, Second}
use Rattle.bus_base.specs.declared.samples.Sample.{Sample}
use Rattle.bus_base.specs.declared.samples.Drive.{Drive}
use Rattle.bus_base.specs.declared.samples.Drive.TheVariants.{On}
use Rattle.bus_formats.specs.declared.fault.Fault.{Fault}
use Rattle.bus_formats.specs.declared.fault.Hit.{Hit}
use Rattle.bus_model.specs.Transmissions.{drives_on, drive_or, station_drive, newest_drives, Transmission, is_of, is_command, cut_over, hits_of, new_transmission, is_cut_over, with_drive, with_drives, transmissions}
use Rattle.bus_law_line.specs.Shown.{sample_of}
use Rattle.bus_law_line.specs.Senders.{drives_command, Sender, SendsAlone, SendAlone}
use Rattle.bus_law_line.proofs.Begun.{find-other}
use Rattle.bus_law_parts.specs.Parts.{SentPart, IsWithoutCommand, AreWithoutCommand, CommandsAlone}
use Rattle.bus_law_parts.proofs.Begins.{count-same, not-both}
use Rattle.bus_law_parts.proofs.LookBacks.{sends-sample, sends-nothing, is-driving}
use Rattle.bus_law_parts.proofs.SentParts.{own, own-found, fewer-ticks, uncut-at}

-- ---- the drives of a tick

-- where none is a command, none is counted
count-silent : (faults : List Fault) (st tick : ℕ) (before drives : List Drive) (ts : List Transmission) →
    ((place : ℕ) → drives_command (station_drive place drives) ≡ false) →
    count_by is_command (with_drives faults st tick before drives ts) ≡ count_by is_command ts
count-silent faults st tick before [] ts none = refl
count-silent faults st tick before (drive ∷ drives) ts none =
    count-silent faults (suc st) tick before drives (with_drive faults st tick (station_drive st before) ts drive) (λ place. none (suc place))
    ∙ count-same faults st tick (station_drive st before) drive ts (none 0)

-- where a station's transmission goes on, it adds none
stays-either : (b : Bool) (t : Transmission) (ts : List Transmission) → b ≡ true → count_by is_command (if b then ts else t ∷ ts) ≡ count_by is_command ts
stays-either b t ts e = rw e refl

count-goes-on : (faults : List Fault) (s st place tick : ℕ) (c : Channel) (sample : Sample) (part : Part) (last : Bool)
    (before drives : List Drive) (ts : List Transmission) → st + place ≡ s → slice_get drives place ≡ Some (On c sample part last) →
    (drives_on c (station_drive s before) && not (is_cut_over faults tick (find (is_of s c) ts))) ≡ true →
    ((other : ℕ) → other ≢ place → drives_command (station_drive other drives) ≡ false) →
    count_by is_command (with_drives faults st tick before drives ts) ≡ count_by is_command ts
count-goes-on faults s st place tick c sample part last before [] ts at own on others = absurd (none-some _ own)
count-goes-on faults s st zero tick c sample part last before (drive ∷ drives) ts at own on others =
    let here : st ≡ s = omega (arith, at) in
    let same : drive ≡ On c sample part last = same_Some _ _ own in
    count-silent faults (suc st) tick before drives (with_drive faults st tick (station_drive st before) ts drive)
    (λ place. others (suc place) (λ e. omega (arith, e)))
    ∙ ap (λ d. count_by is_command (with_drive faults st tick (station_drive st before) ts d)) same
    ∙ stays-either (drives_on c (station_drive st before) && not (is_cut_over faults tick (find (is_of st c) ts))) (new_transmission st c part tick ts) ts
    (rw here on)
count-goes-on faults s st (suc place) tick c sample part last before (drive ∷ drives) ts at own on others =
    let apart : ((st == s) && drives_on c drive) ≡ false = not-both s st (drives_on c drive) (λ e. absurd (omega (arith, e, at))) in
    let same = find-other faults s c st tick (station_drive st before) drive ts apart in
    count-goes-on faults s (suc st) place tick c sample part last before drives (with_drive faults st tick (station_drive st before) ts drive)
    (omega (arith, at)) own (ap (λ o. drives_on c (station_drive s before) && not (is_cut_over faults tick o)) same ∙ on)
    (λ other apart. others (suc other) (λ e. apart (omega (arith, e))))
    ∙ count-same faults st tick (station_drive st before) drive ts (others 0 (λ e. omega (arith, e)))

-- where a command begins, it adds one
begins-either : (b : Bool) (t : Transmission) (ts : List Transmission) → b ≡ false → is_command t ≡ true →
    count_by is_command (if b then ts else t ∷ ts) ≡ suc (count_by is_command ts)
begins-either b t ts e command =
    ap (λ (b : Bool). count_by is_command (if b then ts else t ∷ ts)) e
    ∙ sum_by-cons (λ x. if is_command x then 1 else 0) t ts
    ∙ ap (λ (b : Bool). (if b then 1 else 0) + count_by is_command ts) command
    ∙ omega arith

count-begins : (faults : List Fault) (s st place tick : ℕ) (c : Channel) (sample : Sample) (part : Part) (last : Bool)
    (before drives : List Drive) (ts : List Transmission) → st + place ≡ s → slice_get drives place ≡ Some (On c sample part last) → part ≡ Command →
    (drives_on c (station_drive s before) && not (is_cut_over faults tick (find (is_of s c) ts))) ≡ false →
    ((other : ℕ) → other ≢ place → drives_command (station_drive other drives) ≡ false) →
    count_by is_command (with_drives faults st tick before drives ts) ≡ suc (count_by is_command ts)
count-begins faults s st place tick c sample part last before [] ts at own command fresh others = absurd (none-some _ own)
count-begins faults s st zero tick c sample part last before (drive ∷ drives) ts at own command fresh others =
    let here : st ≡ s = omega (arith, at) in
    let same : drive ≡ On c sample part last = same_Some _ _ own in
    count-silent faults (suc st) tick before drives (with_drive faults st tick (station_drive st before) ts drive)
    (λ place. others (suc place) (λ e. omega (arith, e)))
    ∙ ap (λ d. count_by is_command (with_drive faults st tick (station_drive st before) ts d)) same
    ∙ begins-either (drives_on c (station_drive st before) && not (is_cut_over faults tick (find (is_of st c) ts))) (new_transmission st c part tick ts) ts
    (rw here fresh) (ap (λ p. same_part p Command) command)
count-begins faults s st (suc place) tick c sample part last before (drive ∷ drives) ts at own command fresh others =
    let apart : ((st == s) && drives_on c drive) ≡ false = not-both s st (drives_on c drive) (λ e. absurd (omega (arith, e, at))) in
    let same = find-other faults s c st tick (station_drive st before) drive ts apart in
    count-begins faults s (suc st) place tick c sample part last before drives (with_drive faults st tick (station_drive st before) ts drive)
    (omega (arith, at)) own command (ap (λ o. drives_on c (station_drive s before) && not (is_cut_over faults tick o)) same ∙ fresh)
    (λ other apart. others (suc other) (λ e. apart (omega (arith, e))))
    ∙ ap suc (count-same faults st tick (station_drive st before) drive ts (others 0 (λ e. omega (arith, e))))

-- ---- ticks without a command

count-tick : (faults : List Fault) (now : List Drive) (driven : List (List Drive)) → IsWithoutCommand now →
    count_by is_command (transmissions faults (now ∷ driven)) ≡ count_by is_command (transmissions faults driven)
unfolding transmissions
count-tick faults now driven none = count-silent faults 0 (length driven) (newest_drives driven) now (transmissions faults driven) none

pub count-without : (faults : List Fault) (before ticks : List (List Drive)) → AreWithoutCommand ticks →
    count_by is_command (transmissions faults (ticks ++ before)) ≡ count_by is_command (transmissions faults before)
count-without faults before [] none = refl
count-without faults before (now ∷ ticks) none = count-tick faults now (ticks ++ before) none.0 ∙ count-without faults before ticks none.1

-- ---- the ticks of an answer

pub no-command : (part : Part) → part ≢ Command → same_part part Command ≡ false
no-command Command apart = absurd (apart refl)
no-command First apart = refl
no-command Second apart = refl

answers-nothing : (s : Sender) (i : ℕ) (now : List Drive) → SendsAlone s i now → s.part ≢ Command → drives_command (station_drive s.station now) ≡ false
answers-nothing s i now sends answer = elim (cases_lt i (40 * length s.words)) [
  | inl low ↦ ap (λ o. drives_command (drive_or o)) (sends-sample s i now sends low) ∙ no-command s.part answer
  | inr past ↦ ap (λ o. drives_command (drive_or o)) (sends-nothing s i now sends past)
]

answer-without : (s : Sender) (sent : List (List Drive)) → SendAlone s sent → s.part ≢ Command → CommandsAlone s sent → AreWithoutCommand sent
answer-without s [] sends answer alone = tt
answer-without s (now ∷ sent) sends answer alone = (
  λ station. elim (cases_eq station s.station) [
    | inl same ↦ rw same (answers-nothing s (length sent) now sends.0 answer)
    | inr apart ↦ alone.0 station apart
  ],
  answer-without s sent sends.1 answer alone.1,
)

pub count-answer : (faults : List Fault) (s : Sender) (before sent : List (List Drive)) → SendAlone s sent → s.part ≢ Command → CommandsAlone s sent →
    count_by is_command (transmissions faults (sent ++ before)) ≡ count_by is_command (transmissions faults before)
count-answer faults s before sent sends answer alone = count-without faults before sent (answer-without s sent sends answer alone)

-- ---- the ticks of a command

silent-without : (s : Sender) (i : ℕ) (now : List Drive) → SendsAlone s i now → 40 * length s.words ≤ i →
    ((other : ℕ) → other ≢ s.station → drives_command (station_drive other now) ≡ false) → IsWithoutCommand now
silent-without s i now sends past alone station = elim (cases_eq station s.station) [
  | inl same ↦ rw same (ap (λ o. drives_command (drive_or o)) (sends-nothing s i now sends past))
  | inr apart ↦ alone station apart
]

both-true : (a b : Bool) → a ≡ true → b ≡ false → (a && not b) ≡ true
both-true a b p q = rw (p, q) refl

pub count-command : (faults : List Fault) (s : Sender) (hits : List Hit) (before sent : List (List Drive)) (now : List Drive) →
    SentPart faults s hits before (now ∷ sent) → s.part ≡ Command → CommandsAlone s (now ∷ sent) →
    count_by is_command (transmissions faults ((now ∷ sent) ++ before)) ≡ suc (count_by is_command (transmissions faults before))
unfolding transmissions
count-command faults s hits before [] now h command alone =
    let some = h.fits.some in
    count-begins faults s.station 0 s.station (length before) s.channel (sample_of s.words 0) s.part (1 == 40 * length s.words)
    (newest_drives before) now (transmissions faults before) (omega arith) (sends-sample s 0 now h.ticks.0 (omega (arith, some))) command h.fresh alone.0
count-command faults s hits before (earlier ∷ sent) now h command alone =
    let less = fewer-ticks faults s hits before (earlier ∷ sent) now h in
    elim (cases_lt (suc (length sent)) (40 * length s.words)) [
      | inr past ↦ (
          count-tick faults now ((earlier ∷ sent) ++ before) (silent-without s (suc (length sent)) now h.ticks.0 past alone.0)
          ∙ count-command faults s hits before sent earlier less command alone.1)
      | inl low ↦ (
          let long : length (sent ++ before) ≡ length sent + length before = length-append sent before in
          let at : suc (length (sent ++ before)) - length before ≡ suc (length sent) = omega (arith, long) in
          let uncut : is_cut_over faults (suc (length (sent ++ before)))
          (find (is_of s.station s.channel) (transmissions faults ((earlier ∷ sent) ++ before))) ≡ false =
          ap (is_cut_over faults (suc (length (sent ++ before)))) (own-found faults s hits before sent earlier less)
          ∙ ap (λ i. list_any (cut_over i) (hits_of faults (own faults s before))) at
          ∙ ap (list_any (cut_over (suc (length sent)))) h.named
          ∙ uncut-at s.part hits s.words (suc (length sent)) h.fits low (omega (arith, h.within)) in
          count-goes-on faults s.station 0 s.station (suc (length (sent ++ before))) s.channel (sample_of s.words (suc (length sent))) s.part
          (suc (suc (length sent)) == 40 * length s.words) earlier now (transmissions faults ((earlier ∷ sent) ++ before)) (omega arith)
          (sends-sample s (suc (length sent)) now h.ticks.0 low)
          (both-true (drives_on s.channel (station_drive s.station earlier)) _ (is-driving s (length sent) earlier less.ticks.0 (omega (arith, low))) uncut)
          alone.0
          ∙ count-command faults s hits before sent earlier less command alone.1)
    ]
