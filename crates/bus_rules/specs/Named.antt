-- The breaches of one rule on one channel, by the ticks that they name; and the bursts and messages of the whole past that break it.
use Rattle.std.specs.Prelude.{ℕ, Bool, true, false, ◌&&◌, if◌then◌else◌, List, [], ◌∷◌, flat_map, Option, Some, None, filter_map}
use Rattle.bus_base.specs.Samples.{same_channel}
use Rattle.bus_base.specs.declared.samples.Channel.{Channel}
use Rattle.bus_line.specs.Past.{Burst}
use Rattle.bus_monitor.specs.Messages.{Came, unknown, ended, Closed}
use Rattle.bus_rules.specs.declared.breach.Breach.{Breach}
use Rattle.bus_rules.specs.declared.breach.Rule.{Rule}
use Rattle.bus_rules.specs.declared.breach.Rule.TheVariants.{Overlap, Word, Long, Gap, Response, Unknown, Reply, Open}

abbrev pub same_rule : Rule → Rule → Bool
same_rule Overlap Overlap = true
same_rule Word Word = true
same_rule Long Long = true
same_rule Gap Gap = true
same_rule Response Response = true
same_rule Unknown Unknown = true
same_rule Reply Reply = true
same_rule Open Open = true
same_rule _ _ = false

-- the tick that a breach of this rule on this channel names
abbrev pub named : Rule → Channel → Breach → Option ℕ
named rule c b = if same_rule rule b.rule && same_channel c b.channel then Some b.tick.0 else None

-- these ticks, in the order in which the breaches become known
abbrev pub ticks_named : Rule → Channel → List Breach → List ℕ
ticks_named rule c found = filter_map (named rule c) found

-- the first tick of a burst of which this is so
abbrev pub first_where : (Burst → Bool) → Burst → List ℕ
first_where test burst = if test burst then burst.first ∷ [] else []

-- the first tick of a message of no known form
abbrev pub first_unknown : Came → ℕ → List ℕ
first_unknown unknown first = first ∷ []
first_unknown (ended kind outcome statuses) first = []

abbrev pub unknown_first : Closed → List ℕ
unknown_first closed = first_unknown closed.came closed.first
