use Rattle.bus_model.specs.Terminal.{standing}
use Rattle.bus_law_control.proofs.Muted.{mute-sends, mute-silent, muted-stands, muted-ignores, muted-heeds, muted-over, mute-takes}
use Rattle.bus_law_control.proofs.answers.a_mute_answer_is_over.Goals as goal

pub returns : goal.returns
returns c = record {
  sends = mute-sends;
  silent = mute-silent;
  stands = muted-stands;
  ignores = λ k t loads memory c heard ticks hears few. muted-ignores k t (standing k t loads memory heard) c heard ticks hears few;
  over = λ k t loads memory c heard ticks answer hears many. let s = standing k t loads memory heard in (
    muted-over k t s c heard ticks hears answer many,
    muted-heeds k t s c heard ticks hears many,
  );
  takes = mute-takes;
}
