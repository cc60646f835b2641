use Rattle.bus_capture.proofs.OffsetLaws.{place-law, one-law, whole-law}
use Rattle.bus_capture.proofs.laws.the_first_byte_that_may_not_stand_is_refused.Goals as goal

pub returns-clause-place : goal.returns-clause-place
returns-clause-place c text refusal = place-law text refusal

pub returns-clause-one : goal.returns-clause-one
returns-clause-one c text = one-law text

pub returns-clause-whole : goal.returns-clause-whole
returns-clause-whole c text n good = whole-law text n good
