-- What the two ears of a terminal stand for, with one tick more.
use Rattle.std.proofs.Common.{◌≡◌, ℕ, suc, Bool, ◌&&◌, List, [], ◌∷◌, length, refl, ap}
use Rattle.bus_base.specs.Samples.{same_channel, sample_on}
use Rattle.bus_base.specs.declared.samples.Channel.{Channel}
use Rattle.bus_base.specs.declared.samples.Pair.{Pair}
use Rattle.bus_line.specs.Past.{slot_now}
use Rattle.bus_formats.specs.Plans.{TerminalData}
use Rattle.bus_ears.specs.Ears.{EarStands, sent_by, addressed_by}
use Rattle.bus_ears.specs.declared.ear.Ear.{Ear}
use Rattle.bus_model.specs.Hearing.{Moment, heard_on}
use Rattle.bus_model.specs.Standing.{Standing, mark_on, ignored_from}
use Rattle.bus_model.specs.Terminal.{begins, sent_on, addressed_on}

pub length-heard : (c : Channel) (past : List Moment) → length (heard_on c past) ≡ length past
length-heard c [] = refl
length-heard c (moment ∷ past) = ap suc (length-heard c past)

-- an ear with the marks of the newest tick
pub ear-lands : (k most own now : ℕ) (terminal : TerminalData) (past : List Moment) (s : Standing) (moment : Moment) (heard : Pair) (c : Channel)
    (ear : Ear) (b : Bool) →
    terminal.address ≡ own → length past ≡ now → moment.shown ≡ heard → b ≡ (begins k terminal past s && same_channel s.channel c) →
    EarStands k most own ear (sample_on heard c ∷ heard_on c past) (sent_by now b (mark_on s.sent c))
    (addressed_by own now (slot_now k (sample_on heard c ∷ heard_on c past)) (ignored_from k (heard_on c past) (mark_on s.sent c)) (mark_on s.addressed c)) →
    EarStands k most own ear (heard_on c (moment ∷ past)) (sent_on k terminal past s c) (addressed_on k terminal (moment ∷ past) s c)
ear-lands k most own now terminal past s moment heard c ear b own_is here shown begun st =
    rw (← begun, shown, own_is, here) st
