-- What is written of a capture that was judged.
use Rattle.std.specs.Prelude.{ℕ, zero, suc, List, ◌++◌, flat_map, length, codes}
use Rattle.bus_base.specs.declared.samples.Pair.{Pair}
use Rattle.bus_text.specs.Texts.{line, number, channel_text}
use Rattle.bus_monitor.specs.Listings.{end_line}
use Rattle.bus_rules.specs.Breaches.{known, breaches}
use Rattle.bus_rules.specs.declared.breach.Breach.{Breach}
use Rattle.bus_rules.specs.declared.breach.Rule.{Rule}
use Rattle.bus_rules.specs.declared.breach.Rule.TheVariants.{Overlap, Word, Long, Gap, Response, Unknown, Reply, Open}

abbrev pub rule_text : Rule → List ℕ
rule_text Overlap = codes " overlap"
rule_text Word = codes " word"
rule_text Long = codes " long"
rule_text Gap = codes " gap"
rule_text Response = codes " response"
rule_text Unknown = codes " unknown"
rule_text Reply = codes " reply"
rule_text Open = codes " open"

abbrev pub breach_line : Breach → List ℕ
breach_line b = line (codes "breach" ++ number b.tick.0 ++ channel_text b.channel ++ rule_text b.rule)

abbrev pub breach_lines : List Breach → List ℕ
breach_lines found = flat_map breach_line found

-- the number of breaches, or that there is none
abbrev pub verdict_line : ℕ → List ℕ
verdict_line zero = line (codes "clean")
verdict_line (suc n) = line (codes "breaches" ++ number (suc n))

-- the lines that the ticks complete
unfoldable pub known_lines : ℕ → List Pair → List ℕ
known_lines k past = breach_lines (known k past)

-- a line for each breach, then the verdict and the number of ticks
unfoldable pub judge_text : ℕ → List Pair → List ℕ
judge_text k past = breach_lines (breaches k past) ++ verdict_line (length (breaches k past)) ++ end_line past
