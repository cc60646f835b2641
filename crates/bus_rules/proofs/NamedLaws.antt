-- Which bursts and messages of the whole past have a breach.
use Rattle.std.proofs.Common.{◌≡◌, ℕ, ◌+◌, ◌<◌, List, [], ◌∷◌, ◌++◌, length, refl, ap, sym, ◌∙◌, arith}
use Rattle.std.specs.Prelude.{Bool, true, false, not, ◌&&◌, ◌==◌, nat_lt, if◌then◌else◌, is_none, is_some, flat_map, filter_map, Option, Some, None, option_to_list}
use Rattle.std.proofs.lemmas.List.{append-nil}
use Rattle.std.proofs.lemmas.List.Elements.{filter_map-append}
use Rattle.std.proofs.lemmas.Grind.{flat_map-append}
use Rattle.bus_base.specs.Samples.{sample_on, same_channel}
use Rattle.bus_base.specs.declared.samples.Channel.{Channel}
use Rattle.bus_base.specs.declared.samples.Channel.TheVariants.{A, B}
use Rattle.bus_base.specs.declared.samples.Pair.{Pair}
use Rattle.bus_base.specs.declared.samples.Sample.{Sample}
use Rattle.bus_line.specs.Past.{Burst, runs, ended_now}
use Rattle.bus_line.specs.Channels.{on_channel, quiet_both}
use Rattle.bus_formats.specs.Forms.{answers_of}
use Rattle.bus_formats.specs.Times.{no_response}
use Rattle.bus_formats.specs.declared.form.Reading.{Reading}
use Rattle.bus_formats.specs.declared.form.Reading.TheVariants.{Good, Ends}
use Rattle.bus_formats.specs.declared.plan.Kind.{Kind}
use Rattle.bus_monitor.specs.Messages.{Closed, Waiting, is_answer, opening, opened, closed_by, waits_on, answer_read, messages, unanswered}
use Rattle.bus_monitor.specs.Listings.{bursts_on, messages_on}
use Rattle.bus_monitor.specs.Progress.{waiting, closed_at_burst, closed_in_time, closed_with, closed_now}
use Rattle.bus_monitor.specs.Told.{begins}
use Rattle.bus_monitor.proofs.ChannelLaws.{ended, bursts-channel}
use Rattle.bus_monitor.proofs.MessageLaws.{messages-grow, messages-channel, messages_of}
use Rattle.bus_rules.specs.Breaches.{breach_where, both_heard, overlaps, overlap_now, answered, begun_so, is_damaged, longest_burst, is_bad_reply, taken_so, ended_so, at_end, at_begin, known_on, known_now, known}
use Rattle.bus_rules.specs.Named.{same_rule, named, ticks_named, first_where, unknown_first}
use Rattle.bus_rules.specs.declared.breach.Breach.{Breach}
use Rattle.bus_rules.specs.declared.breach.Rule.{Rule}
use Rattle.bus_rules.specs.declared.breach.Rule.TheVariants.{Overlap, Word, Long, Gap, Response, Unknown, Reply}

-- ---- one breach, by its rule and its channel

where-none : (r : Rule) (c : Channel) (b : Bool) (d : Channel) (q : Rule) (t : ℕ) → (same_rule r q && same_channel c d) ≡ false →
    ticks_named r c (breach_where b d q t) ≡ []
where-none r c false d q t is = refl
where-none r c true d q t is = rw is refl

where-some : (r : Rule) (c : Channel) (b : Bool) (d : Channel) (q : Rule) (t : ℕ) → (same_rule r q && same_channel c d) ≡ true →
    ticks_named r c (breach_where b d q t) ≡ (if b then t ∷ [] else [])
where-some r c false d q t is = refl
where-some r c true d q t is = rw is refl

-- breaches one after the other, of which only the ones in the middle are asked for
parts-named : (r : Rule) (c : Channel) (xs ys : List Breach) (before after : List ℕ) → ticks_named r c xs ≡ before → ticks_named r c ys ≡ after →
    ticks_named r c (xs ++ ys) ≡ before ++ after
parts-named r c xs ys before after x y = filter_map-append (named r c) xs ys ∙ ap (λ v. v ++ ticks_named r c ys) x ∙ ap (λ v. before ++ v) y

-- ---- of a tick, by what is asked for: this rule on this channel, beside another channel or not

-- a rule on ended bursts: none that the beginning of a burst or an overlap breaks
pub record IsOfEnds (r : Rule) (c d : Channel) : Type 0 where
  pub overlap : (same_rule r Overlap && same_channel c A) ≡ false
  pub gap : (same_rule r Gap && same_channel c d) ≡ false
  pub response : (same_rule r Response && same_channel c d) ≡ false

begun-none : (r : Rule) (c d : Channel) → IsOfEnds r c d → (first quiet : ℕ) (w : Option Waiting) → ticks_named r c (begun_so d first quiet w) ≡ []
begun-none r c d is first quiet None = where-none r c _ d Gap first is.gap
begun-none r c d is first quiet (Some w) = where-none r c _ d Response first is.response

begin-none : (r : Rule) (c d : Channel) → IsOfEnds r c d → (k first quiet : ℕ) (w : Option Waiting) (b : Bool) →
    ticks_named r c (at_begin k d first quiet w b) ≡ []
begin-none r c d is k first quiet w false = refl
begin-none r c d is k first quiet w true = begun-none r c d is first quiet (answered k w first)

-- the breaches of a channel in a tick are those of the burst that ended
on-named : (r : Rule) (c d : Channel) → IsOfEnds r c d → (k q : ℕ) (x : Sample) (past : List Sample) (ticks : List ℕ) →
    ticks_named r c (at_end k d (waiting k past) (ended_now k (x ∷ past))) ≡ ticks → ticks_named r c (known_on k d q (x ∷ past)) ≡ ticks
on-named r c d is k q x past ticks at =
    parts-named r c (at_end k d (waiting k past) (ended_now k (x ∷ past))) (at_begin k d (length past) q (waiting k past) (begins k (x ∷ past))) ticks [] at
    (begin-none r c d is k (length past) q (waiting k past) (begins k (x ∷ past))) ∙ append-nil ticks

-- ---- a burst that ended

taken-none : (r : Rule) (c d : Channel) (k : ℕ) (w : Option Waiting) (burst : Burst) → (same_rule r Unknown && same_channel c d) ≡ false →
    (same_rule r Reply && same_channel c d) ≡ false → ticks_named r c (taken_so k d w burst) ≡ []
taken-none r c d k None burst u p = where-none r c _ d Unknown burst.first u
taken-none r c d k (Some w) burst u p = where-none r c _ d Reply burst.first p

end-named : (r : Rule) (c d : Channel) (k : ℕ) (w : Option Waiting) (burst : Burst) (word long taken : List ℕ) →
    ticks_named r c (breach_where (is_damaged burst) d Word burst.first) ≡ word →
    ticks_named r c (breach_where (nat_lt longest_burst burst.ticks) d Long burst.first) ≡ long → ticks_named r c (taken_so k d w burst) ≡ taken →
    ticks_named r c (ended_so k d w burst) ≡ word ++ (long ++ taken)
end-named r c d k w burst word long taken a b e =
    parts-named r c (breach_where (is_damaged burst) d Word burst.first) (breach_where (nat_lt longest_burst burst.ticks) d Long burst.first ++ taken_so k d w burst)
    word (long ++ taken) a
    (parts-named r c (breach_where (nat_lt longest_burst burst.ticks) d Long burst.first) (taken_so k d w burst) long taken b e)

-- on another channel there is none
end-other : (r : Rule) (c d : Channel) → ((q : Rule) → (same_rule r q && same_channel c d) ≡ false) → (k : ℕ) (w : Option Waiting) (found : Option Burst) →
    ticks_named r c (at_end k d w found) ≡ []
end-other r c d none k w None = refl
end-other r c d none k w (Some burst) =
    end-named r c d k (answered k w burst.first) burst [] [] [] (where-none r c _ d Word burst.first (none Word)) (where-none r c _ d Long burst.first (none Long))
    (taken-none r c d k (answered k w burst.first) burst (none Unknown) (none Reply))

-- ---- each rule

and-false : (b : Bool) → (b && false) ≡ false
and-false true = refl
and-false false = refl

words-at : (k : ℕ) (c : Channel) (w : Option Waiting) (found : Option Burst) → (same_channel c c) ≡ true →
    ticks_named Word c (at_end k c w found) ≡ flat_map (first_where is_damaged) (option_to_list found)
words-at k c w None own = refl
words-at k c w (Some burst) own =
    end-named Word c c k (answered k w burst.first) burst (first_where is_damaged burst) [] []
    (where-some Word c _ c Word burst.first own) (where-none Word c _ c Long burst.first refl) (taken-none Word c c k (answered k w burst.first) burst refl refl)

longs-at : (k : ℕ) (c : Channel) (w : Option Waiting) (found : Option Burst) → (same_channel c c) ≡ true →
    ticks_named Long c (at_end k c w found) ≡ flat_map (first_where (λ (b : Burst). nat_lt longest_burst b.ticks)) (option_to_list found)
longs-at k c w None own = refl
longs-at k c w (Some burst) own =
    end-named Long c c k (answered k w burst.first) burst [] (first_where (λ (b : Burst). nat_lt longest_burst b.ticks) burst) []
    (where-none Long c _ c Word burst.first refl) (where-some Long c _ c Long burst.first own) (taken-none Long c c k (answered k w burst.first) burst refl refl)

-- ---- messages of no known form

no-unknown : (b : Bool) (closed : Closed) → unknown_first closed ≡ [] → [] ≡ flat_map unknown_first (if b then [] else closed ∷ [])
no-unknown true closed is = refl
no-unknown false closed is = rw is refl

opened-unknown : (k : ℕ) (burst : Burst) (kind : Option Kind) →
    (if is_none kind then burst.first ∷ [] else []) ≡ flat_map unknown_first (opened k burst kind)
opened-unknown k burst None = refl
opened-unknown k burst (Some kind) = no-unknown (is_some (answers_of kind).first) _ refl

reply-unknown : (k end : ℕ) (w : Waiting) (reading : Reading) → [] ≡ flat_map unknown_first (closed_by k w end reading)
reply-unknown k end w (Good status) = no-unknown (waits_on w) _ refl
reply-unknown k end w (Ends outcome status) = refl

taken-unknown : (k : ℕ) (c : Channel) (burst : Burst) → (same_channel c c) ≡ true → (w : Option Waiting) →
    ticks_named Unknown c (taken_so k c (answered k w burst.first) burst) ≡ flat_map unknown_first (closed_at_burst k w burst)
taken-unknown k c burst own None = where-some Unknown c _ c Unknown burst.first own ∙ opened-unknown k burst (opening k burst)
taken-unknown k c burst own (Some w) = by-answer (is_answer k w burst.first)
  where
    by-answer : (answer : Bool) → ticks_named Unknown c (taken_so k c (if answer then Some w else None) burst)
        ≡ flat_map unknown_first (if answer then closed_by k w (burst.first + burst.ticks) (answer_read k w burst) else opened k burst (opening k burst))
    by-answer true = where-none Unknown c _ c Reply burst.first refl ∙ reply-unknown k (burst.first + burst.ticks) w (answer_read k w burst)
    by-answer false = where-some Unknown c _ c Unknown burst.first own ∙ opened-unknown k burst (opening k burst)

time-unknown : (tick : ℕ) (running : Bool) (w : Option Waiting) → [] ≡ flat_map unknown_first (closed_in_time tick running w)
time-unknown tick running None = refl
time-unknown tick running (Some w) = by-over (not running && (tick == w.from + no_response))
  where
    by-over : (over : Bool) → [] ≡ flat_map unknown_first (if over then unanswered w else [])
    by-over true = refl
    by-over false = refl

unknowns-at : (k : ℕ) (c : Channel) (tick : ℕ) (running : Bool) (w : Option Waiting) (found : Option Burst) → (same_channel c c) ≡ true →
    ticks_named Unknown c (at_end k c w found) ≡ flat_map unknown_first (closed_with k tick running w found)
unknowns-at k c tick running w None own = time-unknown tick running w
unknowns-at k c tick running w (Some burst) own =
    end-named Unknown c c k (answered k w burst.first) burst [] [] (flat_map unknown_first (closed_at_burst k w burst))
    (where-none Unknown c _ c Word burst.first refl) (where-none Unknown c _ c Long burst.first refl) (taken-unknown k c burst own w)

-- ---- a tick of both channels

module _ (r : Rule) (k : ℕ) (shown : Pair) (past : List Pair) (ticks : List ℕ) where
  now-a : IsOfEnds r A A → IsOfEnds r A B → ((q : Rule) → (same_rule r q && same_channel A B) ≡ false) →
      ticks_named r A (at_end k A (waiting k (on_channel A past)) (ended_now k (on_channel A (shown ∷ past)))) ≡ ticks →
      ticks_named r A (known_now k (shown ∷ past)) ≡ ticks
  now-a own other none at =
      parts-named r A (overlap_now (shown ∷ past)) _ [] ticks (where-none r A _ A Overlap (length past) own.overlap)
      (parts-named r A (known_on k A (quiet_both past) (on_channel A (shown ∷ past))) (known_on k B (quiet_both past) (on_channel B (shown ∷ past))) ticks []
      (on-named r A A own k (quiet_both past) shown.a (on_channel A past) ticks at)
      (on-named r A B other k (quiet_both past) shown.b (on_channel B past) [] (end-other r A B none k (waiting k (on_channel B past)) (ended_now k (on_channel B (shown ∷ past)))))
      ∙ append-nil ticks)

  now-b : IsOfEnds r B A → IsOfEnds r B B → ((q : Rule) → (same_rule r q && same_channel B A) ≡ false) →
      ticks_named r B (at_end k B (waiting k (on_channel B past)) (ended_now k (on_channel B (shown ∷ past)))) ≡ ticks →
      ticks_named r B (known_now k (shown ∷ past)) ≡ ticks
  now-b other own none at =
      parts-named r B (overlap_now (shown ∷ past)) _ [] ticks (where-none r B _ A Overlap (length past) own.overlap)
      (parts-named r B (known_on k A (quiet_both past) (on_channel A (shown ∷ past))) (known_on k B (quiet_both past) (on_channel B (shown ∷ past))) [] ticks
      (on-named r B A other k (quiet_both past) shown.a (on_channel A past) [] (end-other r B A none k (waiting k (on_channel A past)) (ended_now k (on_channel A (shown ∷ past)))))
      (on-named r B B own k (quiet_both past) shown.b (on_channel B past) ticks at))

-- which of the rules are on ended bursts
words-end : (c d : Channel) → IsOfEnds Word c d
words-end c d = record { overlap = refl; gap = refl; response = refl }

longs-end : (c d : Channel) → IsOfEnds Long c d
longs-end c d = record { overlap = refl; gap = refl; response = refl }

unknowns-end : (c d : Channel) → IsOfEnds Unknown c d
unknowns-end c d = record { overlap = refl; gap = refl; response = refl }

module _ (r : Rule) (k : ℕ) where
  now-named : ((c d : Channel) → IsOfEnds r c d) → (c : Channel) (shown : Pair) (past : List Pair) (ticks : List ℕ) →
      ticks_named r c (at_end k c (waiting k (on_channel c past)) (ended_now k (on_channel c (shown ∷ past)))) ≡ ticks →
      ticks_named r c (known_now k (shown ∷ past)) ≡ ticks
  now-named ends A shown past ticks at = now-a r k shown past ticks (ends A A) (ends A B) (λ q. and-false (same_rule r q)) at
  now-named ends B shown past ticks at = now-b r k shown past ticks (ends B A) (ends B B) (λ q. and-false (same_rule r q)) at

  known-named : (c : Channel) (shown : Pair) (past : List Pair) (before ticks : List ℕ) → ticks_named r c (known k past) ≡ before →
      ticks_named r c (known_now k (shown ∷ past)) ≡ ticks → ticks_named r c (known k (shown ∷ past)) ≡ before ++ ticks
  unfolding known
  known-named c shown past before ticks a b = parts-named r c (known k past) (known_now k (shown ∷ past)) before ticks a b

own-channel : (c : Channel) → same_channel c c ≡ true
own-channel A = refl
own-channel B = refl

-- ---- whole pasts

module _ (r : Rule) (test : Burst → Bool) (k : ℕ) (ends : (c d : Channel) → IsOfEnds r c d)
    (at : (c : Channel) (w : Option Waiting) (found : Option Burst) → (same_channel c c) ≡ true → ticks_named r c (at_end k c w found) ≡ flat_map (first_where test) (option_to_list found)) where
  ended-named : (c : Channel) (past : List Pair) → ticks_named r c (known k past) ≡ flat_map (first_where test) (ended k (on_channel c past))
  unfolding known ended
  ended-named c [] = refl
  ended-named A (shown ∷ past) =
      known-named r k A shown past _ _ (ended-named A past)
      (now-named r k ends A shown past _ (at A (waiting k (on_channel A past)) (ended_now k (on_channel A (shown ∷ past))) refl))
      ∙ sym (flat_map-append (first_where test) (ended k (on_channel A past)) (option_to_list (ended_now k (on_channel A (shown ∷ past)))))
  ended-named B (shown ∷ past) =
      known-named r k B shown past _ _ (ended-named B past)
      (now-named r k ends B shown past _ (at B (waiting k (on_channel B past)) (ended_now k (on_channel B (shown ∷ past))) refl))
      ∙ sym (flat_map-append (first_where test) (ended k (on_channel B past)) (option_to_list (ended_now k (on_channel B (shown ∷ past)))))

pub words-named : (k : ℕ) (c : Channel) (past : List Pair) → ticks_named Word c (known k past) ≡ flat_map (first_where is_damaged) (bursts_on k c past)
words-named k c past = ended-named Word is_damaged k words-end (words-at k) c past ∙ ap (flat_map (first_where is_damaged)) (sym (bursts-channel k c past))

pub longs-named : (k : ℕ) (c : Channel) (past : List Pair) →
    ticks_named Long c (known k past) ≡ flat_map (first_where (λ (b : Burst). nat_lt longest_burst b.ticks)) (bursts_on k c past)
longs-named k c past =
    ended-named Long (λ (b : Burst). nat_lt longest_burst b.ticks) k longs-end (longs-at k) c past
    ∙ ap (flat_map (first_where (λ (b : Burst). nat_lt longest_burst b.ticks))) (sym (bursts-channel k c past))

closed-named : (k : ℕ) (c : Channel) (x : Sample) (past : List Sample) →
    ticks_named Unknown c (at_end k c (waiting k past) (ended_now k (x ∷ past))) ≡ flat_map unknown_first (closed_now k (x ∷ past))
unfolding closed_now
closed-named k c x past = unknowns-at k c (length past) (runs k (x ∷ past)) (waiting k past) (ended_now k (x ∷ past)) (own-channel c)

messages-named : (k : ℕ) (c : Channel) (past : List Pair) → k < no_response →
    ticks_named Unknown c (known k past) ≡ flat_map unknown_first (messages_of k (on_channel c past))
unfolding known messages ended
messages-named k c [] short = refl
messages-named k A (shown ∷ past) short =
    known-named Unknown k A shown past _ _ (messages-named k A past short)
    (now-named Unknown k unknowns-end A shown past _ (closed-named k A shown.a (on_channel A past)))
    ∙ sym (flat_map-append unknown_first (messages_of k (on_channel A past)) (closed_now k (on_channel A (shown ∷ past))))
    ∙ ap (flat_map unknown_first) (sym (messages-grow k shown.a (on_channel A past) short))
messages-named k B (shown ∷ past) short =
    known-named Unknown k B shown past _ _ (messages-named k B past short)
    (now-named Unknown k unknowns-end B shown past _ (closed-named k B shown.b (on_channel B past)))
    ∙ sym (flat_map-append unknown_first (messages_of k (on_channel B past)) (closed_now k (on_channel B (shown ∷ past))))
    ∙ ap (flat_map unknown_first) (sym (messages-grow k shown.b (on_channel B past) short))

pub unknowns-named : (k : ℕ) (c : Channel) (past : List Pair) → k < no_response →
    ticks_named Unknown c (known k past) ≡ flat_map unknown_first (messages_on k c past)
unknowns-named k c past short = messages-named k c past short ∙ ap (flat_map unknown_first) (sym (messages-channel k c past))
