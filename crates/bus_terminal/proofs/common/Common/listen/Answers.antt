use Rattle.std.proofs.Common.{◌≡◌, ℕ, ◌∷◌, ◌∙◌, sym, ap, subst, refl}
use Rattle.bus_line.specs.declared.cutter.TheConstants.{LAG}
use Rattle.bus_formats.specs.Plans.{TerminalData}
use Rattle.bus_model.specs.Terminal.{marked_by}
use Rattle.bus_terminal.specs.Holding.{EarsStand, AreListened, listened_of}
use Rattle.bus_terminal.proofs.common.Common.listen.Goals as goal

pub listen-requires : goal.listen-requires
listen-requires c =
    let (terminal, loads, past, s, st, is, here, small) = c.requires in (
      past,
      s,
      subst (λ (n : ℕ). EarsStand LAG n c.args.self.now.ears past s) (ap (λ (p : TerminalData). p.address)
          (sym st.plan) ∙ sym c.own_address-own.ensures) st.ears,
      is,
      here,
      small,
    )

pub returns-clause-listened : goal.returns-clause-listened
returns-clause-listened c = λ terminal loads past s moment st is here shown begins.
    let own : c.own_address-own.result ≡ terminal.address = c.own_address-own.ensures ∙ ap (λ (p : TerminalData). p.address) st.plan in
    record {
      plan = refl;
      memory = refl;
      stands = λ left. subst (λ (n : ℕ). EarsStand LAG n c.listen.new.self (moment ∷ past) (marked_by LAG terminal moment past s left)) own
          (c.listen.ensures.stands terminal past s left moment (sym own) (subst (λ (n : ℕ). EarsStand LAG n c.args.self.now.ears past s)
          (sym own) st.ears) is here shown begins);
    }

pub returns-clause-tells : goal.returns-clause-tells
returns-clause-tells c = λ terminal loads past s moment st is here shown.
    let own : c.own_address-own.result ≡ terminal.address = c.own_address-own.ensures ∙ ap (λ (p : TerminalData). p.address) st.plan in
    subst (λ (n : ℕ). AreListened LAG n (listened_of c.listen.new.self c.listen.result) (moment ∷ past) past s) own
    (c.listen.ensures.tells past s moment (subst (λ (n : ℕ). EarsStand LAG n c.args.self.now.ears past s) (sym own) st.ears) is here shown)
