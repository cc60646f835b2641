use Rattle.std.proofs.Common.{[], ◌≡◌, ◌∙◌, true, false, ap, refl, arith}
use Rattle.bus_line.specs.declared.cutter.TheConstants.{LAG}
use Rattle.bus_model.specs.Memory.{first_memory}
use Rattle.bus_terminal.proofs.Quiet.{quiet-stands}
use Rattle.bus_terminal.proofs.Newest.{marked-quiet}
use Rattle.bus_terminal.proofs.listening.Listening.new.Goals as goal

pub returns : goal.returns
returns c = λ n.
    let kept = c.loaded_memory-memory.ensures ∙ ap first_memory c.plan.view_is in
    rw (quiet-stands LAG c.args.plan [] (first_memory c.args.plan) n) record {
      common = record {
        plan = refl;
        fits = c.requires.fits;
        memory = kept;
        absorbed = refl;
        made = tt;
        ears = c.new.ensures c.args.plan.address n (first_memory c.args.plan);
        ended = omega arith;
        marked = marked-quiet LAG c.args.plan.address n (first_memory c.args.plan);
        newest = λ left. (let no : false ≡ true = left in cc);
      };
      rests_now = refl;
    }
