use Rattle.std.proofs.Common.{◌∙◌, arith}
use Rattle.std.proofs.lemmas.Bool.Decides.{nat_tests}
use Rattle.bus_words.specs.Fields.{address_of, flags_in}
use Rattle.bus_words.proofs.FlagBits.{status_bits_of, read_sum, sum_of_bits, clean_is}
use Rattle.bus_words.proofs.laws.a_clean_status_is_its_flags.Goals as goal

pub returns : goal.returns
returns c n = (
  λ same. let made = status_bits_of (address_of n) (flags_in n) in rw same at (clean_is _ made.instrumentation made.reserved),
  λ clean. read_sum n ∙ sum_of_bits n (grind (arith, nat_tests, clean)) (grind (arith, nat_tests, clean)),
)
