use Rattle.std.proofs.Common.{◌∷◌, ◌++◌, ◌∙◌, sym, ap, arith, subst}
use Rattle.std.specs.Prelude.{option_to_list, vec_capacity}
use Rattle.bus_base.specs.declared.samples.Channel.TheVariants.{A, B}
use Rattle.bus_line.specs.declared.cutter.TheConstants.{LAG}
use Rattle.bus_monitor.specs.Progress.{heard_now}
use Rattle.bus_run.specs.BurstListers.{BurstListerStands, burst_on}
use Rattle.bus_run.proofs.MonitorLaws.{words-grow, bursts-grow}
use Rattle.bus_run.proofs.monitor.Monitor.list.Goals as goal

pub returns-clause-stands : goal.returns-clause-stands
returns-clause-stands c most_words most_bursts past st is =
    let x = c.args.moment.now.shown in
    let lister : BurstListerStands LAG c.list_words.new.self.burst_lister past =
    subst (λ l. BurstListerStands LAG l past) (sym c.list_words.ensures.burst_lister) st.burst_lister in
    record {
      burst_lister = c.list_bursts.ensures.stands past lister is;
      words_are = ap (λ v. v.items) c.list_bursts.ensures.words ∙ c.list_words.ensures.words past is
          ∙ ap (λ xs. (xs ++ option_to_list (heard_now LAG A (x ∷ past))) ++ option_to_list (heard_now LAG B (x ∷ past))) st.words_are
          ∙ sym (words-grow LAG x past);
      bursts_are = c.list_bursts.ensures.bursts past lister is
          ∙ ap (λ v. (v.items ++ option_to_list (burst_on LAG A (x ∷ past))) ++ option_to_list (burst_on LAG B (x ∷ past))) c.list_words.ensures.bursts
          ∙ ap (λ xs. (xs ++ option_to_list (burst_on LAG A (x ∷ past))) ++ option_to_list (burst_on LAG B (x ∷ past))) st.bursts_are
          ∙ sym (bursts-grow LAG x past);
      word_room = (let room = st.word_room in let a = ap (λ v. vec_capacity v) c.list_bursts.ensures.words in let b = c.list_words.ensures.room in omega
          (arith, room, a, b));
      burst_room = (let room = st.burst_room in let a = c.list_bursts.ensures.room in let b = ap
          (λ v. vec_capacity v) c.list_words.ensures.bursts in omega (arith, room, a, b));
    }
