use Rattle.bus_words.specs.Fields.{status_bits}
use Rattle.bus_words.proofs.FlagBits.{status_bits_of, flags_are, clean_is}
use Rattle.bus_words.proofs.laws.a_status_has_its_flags.Goals as goal

pub returns-clause-flags : goal.returns-clause-flags
returns-clause-flags c a f = flags_are (status_bits a f) f (status_bits_of a f)

pub returns-clause-clean : goal.returns-clause-clean
returns-clause-clean c a f =
    clean_is (status_bits a f) (status_bits_of a f).instrumentation (status_bits_of a f).reserved
