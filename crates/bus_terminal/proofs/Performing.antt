-- What the code does of what is handled is what the definition does.
use Rattle.std.proofs.Common.{◌≡◌, ℕ, Bool, true, false, List, take, Option, refl, sym, ap, ◌∙◌, subst, arith}
use Rattle.bus_base.specs.declared.samples.Channel.{Channel}
use Rattle.bus_base.specs.declared.samples.Part.TheVariants as parts
use Rattle.bus_words.specs.declared.word.Word.{Word}
use Rattle.bus_formats.specs.Plans.{TerminalData}
use Rattle.bus_ears.specs.declared.ear.HeardBurst.{HeardBurst}
use Rattle.bus_ears.specs.declared.ear.TheConstants.{MOST_SLOTS}
use Rattle.bus_model.specs.Memory.{Memory}
use Rattle.bus_model.specs.Orders.{Obeyed, Duty, promises, obey, keep_promise, unkept}
use Rattle.bus_model.specs.Standing.{Standing, obeys, settles, runs_out}
use Rattle.bus_model.specs.Standing as standing
use Rattle.bus_model.specs.Terminal.{done_by, kept_by}
use Rattle.bus_orders.specs.Meant.{IsDone}
use Rattle.bus_orders.specs.declared.done.Done.{Done}
use Rattle.bus_terminal.specs.Handling.{HandledIs, PerformedIs}
use Rattle.bus_terminal.specs.declared.handling.Waiting.{Waiting}
use Rattle.bus_terminal.specs.declared.handling.Handled.TheVariants as told
use Rattle.bus_terminal.proofs.Short.{obey-short, promise-short, words-fit, count-fits}

pub performed-obeys : (k : ℕ) (terminal : TerminalData) (memory after : Memory) (s : Standing) (order : standing.Handled) (may : Bool) (c : Channel)
    (command : ℕ) (burst : HeardBurst) (done : Done) →
    HandledIs (told.Obeys c command burst) order s → IsDone done after (obey terminal memory c command burst.slots.items burst.rest may) →
    PerformedIs (record { channel = c; end = burst.end; part = parts.First; done = done }) after s order (done_by k terminal s memory may order)
performed-obeys k terminal memory after s (settles end slots rest) may c command burst done is d = absurd is
performed-obeys k terminal memory after s runs_out may c command burst done is d = absurd is
performed-obeys k terminal memory after s (obeys channel end order rest) may c command burst done is d =
    let same : obey terminal memory c command burst.slots.items burst.rest may ≡ obey terminal memory channel order.command order.tail rest may =
    ap (λ (x : Channel). obey terminal memory x command burst.slots.items burst.rest may) is.channel_is
    ∙ ap (λ (x : ℕ). obey terminal memory channel x burst.slots.items burst.rest may) is.command_is
    ∙ ap (λ (x : List (Option Word)). obey terminal memory channel order.command x burst.rest may) is.slots_are
    ∙ ap (λ (x : ℕ). obey terminal memory channel order.command (take MOST_SLOTS order.tail) x may) is.rest_is
    ∙ obey-short terminal memory channel order.command 32 rest order.tail may (omega (arith, words-fit order.command)) in
    record {
      done = subst (λ (o : Obeyed). IsDone done after o) same d;
      channel = is.channel_is;
      end = is.end_is;
      part = λ owed. refl;
    }

kept-with : (k : ℕ) (terminal : TerminalData) (memory : Memory) (c : Channel) (duty : Duty) (command transmitter rest : ℕ) (slots : List (Option Word)) →
    duty ≡ promises command transmitter → kept_by k terminal memory c duty slots rest ≡ keep_promise terminal memory c command transmitter slots rest
kept-with k terminal memory c duty command transmitter rest slots is = ap (λ (d : Duty). kept_by k terminal memory c d slots rest) is

pub performed-settles : (k : ℕ) (terminal : TerminalData) (memory after : Memory) (s : Standing) (order : standing.Handled) (may : Bool) (w : Waiting)
    (burst : HeardBurst) (done : Done) →
    HandledIs (told.Settles w burst) order s →
    IsDone done after (keep_promise terminal memory w.channel w.promise.command w.promise.transmitter burst.slots.items burst.rest) →
    PerformedIs (record { channel = w.channel; end = burst.end; part = parts.Second; done = done }) after s order (done_by k terminal s memory may order)
performed-settles k terminal memory after s (obeys channel end order rest) may w burst done is d = absurd is
performed-settles k terminal memory after s runs_out may w burst done is d = absurd is
performed-settles k terminal memory after s (settles end slots rest) may w burst done is d =
    let command : ℕ = w.promise.command in
    let transmitter : ℕ = w.promise.transmitter in
    let same : keep_promise terminal memory w.channel command transmitter burst.slots.items burst.rest ≡ kept_by k terminal memory s.channel s.duty slots rest =
    ap (λ (x : Channel). keep_promise terminal memory x command transmitter burst.slots.items burst.rest) (sym is.waiting.channel)
    ∙ ap (λ (x : List (Option Word)). keep_promise terminal memory s.channel command transmitter x burst.rest) is.slots_are
    ∙ ap (λ (x : ℕ). keep_promise terminal memory s.channel command transmitter (take MOST_SLOTS slots) x) is.rest_is
    ∙ promise-short terminal memory s.channel command transmitter 33 rest slots (omega (arith, count-fits command))
    ∙ sym (kept-with k terminal memory s.channel s.duty command transmitter rest slots is.waiting.duty) in
    record {
      done = subst (λ (o : Obeyed). IsDone done after o) same d;
      channel = sym is.waiting.channel;
      end = is.end_is;
      part = λ owed. refl;
    }

pub performed-runs_out : (k : ℕ) (terminal : TerminalData) (memory after : Memory) (s : Standing) (order : standing.Handled) (may : Bool)
    (w : Waiting) (done : Done) →
    HandledIs (told.RunsOut w) order s → ((plan : TerminalData) (c : Channel) → IsDone done after (unkept plan memory c)) →
    PerformedIs (record { channel = w.channel; end = w.end; part = parts.Second; done = done }) after s order (done_by k terminal s memory may order)
performed-runs_out k terminal memory after s (obeys channel end order rest) may w done is d = absurd is
performed-runs_out k terminal memory after s (settles end slots rest) may w done is d = absurd is
performed-runs_out k terminal memory after s runs_out may w done is d =
    record {
      done = d terminal s.channel;
      channel = sym is.channel;
      end = sym is.end;
      part = λ owed. (let no : false ≡ true = owed in cc);
    }
