-- What a station makes of a command's burst: it obeys an order in it, or stays as it was.
use Rattle.std.proofs.Common.{◌≡◌, ◌⊎◌, inl, inr, ℕ, Bool, true, false, List, [], ◌∷◌, length, map, Option, Some, None, refl, sym, ap, ◌∙◌, subst, arith}
use Rattle.std.proofs.lemmas.Option.{none-some}
use Rattle.std.specs.Prelude.{if◌then◌else◌, option_to_list}
use Rattle.bus_words.specs.declared.word.Word.{Word}
use Rattle.bus_base.specs.declared.samples.Channel.{Channel}
use Rattle.bus_formats.specs.Accepted.{addresses_named}
use Rattle.bus_formats.specs.Forms.{command_words}
use Rattle.bus_formats.specs.Plans.{ItemData}
use Rattle.bus_formats.specs.declared.fault.Hit.{Hit}
use Rattle.bus_formats.specs.declared.plan.Kind.{Kind}
use Rattle.bus_formats.specs.declared.plan.Kind.TheVariants.{Receive, Transmit, Relay, Mode}
use Rattle.bus_model.specs.Memory.{TimedLoad}
use Rattle.bus_model.specs.Message.{Present, address_of_station, After, unmoved, moved, memory_at, after_command_of, after_command, command_burst}
use Rattle.bus_model.specs.Orders.{Obeyed, Order, last_order, obey}
use Rattle.bus_model.specs.Starts.{has_items}
use Rattle.bus_model.specs.Strikes.{struck}
use Rattle.bus_law_duties.specs.Words.{AreLeftOf}
use Rattle.bus_law_duties.proofs.Struck.{struck-left}
use Rattle.bus_law_duties.proofs.Found.{no-command, data-unaddressed}

module _ (k : ℕ) (loads : List TimedLoad) (c : Channel) (start : ℕ) (hits : List Hit) (item : ItemData) (station : Present) where
  -- the station after the command
  abbrev pub after : After
  after = after_command k loads (command_burst c start hits item) station

  -- what its terminal makes of an order
  abbrev pub obeyed : Order → Obeyed
  obeyed order =
      obey station.plan.terminal (memory_at k loads (command_burst c start hits item) station) c order.command order.tail 0 (has_items station.left)

  -- it serves, finds this order and obeys it
  pub record Obeys (order : Order) : Type 0 where
    pub serves : station.serves ≡ true
    pub found : last_order (address_of_station station) (struck hits (command_words item.kind)) ≡ Some order
    pub is : after ≡ moved station (obeyed order)

  -- by whether it serves, and finds an order
  by-order : (b : Bool) (o : Option Order) → station.serves ≡ b → last_order (address_of_station station) (struck hits (command_words item.kind)) ≡ o →
      (after ≡ unmoved station) ⊎ ((order : Order) × Obeys order)
  by-order false o idle found =
      let others : After = after_command_of k loads (command_burst c start hits item) station
      (last_order (address_of_station station) (struck hits (command_words item.kind))) in
      inl (ap (λ (b : Bool). if b then others else unmoved station) idle)
  by-order true None serves found =
      let burst = command_burst c start hits item in
      let others : After = after_command_of k loads burst station (last_order (address_of_station station) (struck hits (command_words item.kind))) in
      inl (ap (λ (b : Bool). if b then others else unmoved station) serves ∙ ap (after_command_of k loads burst station) found)
  by-order true (Some order) serves found =
      let burst = command_burst c start hits item in
      let others : After = after_command_of k loads burst station (last_order (address_of_station station) (struck hits (command_words item.kind))) in
      inr (
        order,
        record {
          serves = serves;
          found = found;
          is = ap (λ (b : Bool). if b then others else unmoved station) serves ∙ ap (after_command_of k loads burst station) found;
        },
      )

  -- it obeys an order, or stays as it was
  pub obeys-or-not : (after ≡ unmoved station) ⊎ ((order : Order) × Obeys order)
  obeys-or-not = by-order station.serves (last_order (address_of_station station) (struck hits (command_words item.kind))) refl refl

-- ---- a struck command

-- two functions with equal values make equal lists
map-same : {X Y : Type 0} (f g : X → Y) (xs : List X) → ((x : X) → f x ≡ g x) → map f xs ≡ map g xs
map-same f g [] same = refl
map-same f g (x ∷ xs) same = ap (λ y. y ∷ map f xs) (same x) ∙ ap (λ ys. g x ∷ ys) (map-same f g xs same)

-- no command is left of a message to one address without its command word
none-left : (kind : Kind) (own address : ℕ) (slots : List (Option Word)) → addresses_named kind ≡ address ∷ [] →
    AreLeftOf (command_words kind) (None ∷ slots) → last_order own (None ∷ slots) ≡ None
none-left (Receive to sub words) own address slots one left = no-command own None slots refl (data-unaddressed own words slots left.1)
none-left (Transmit from sub count) own address slots one left = no-command own None slots refl (data-unaddressed own [] slots left.1)
none-left (Relay from from_sub to to_sub count) own address slots one left = let two : 2 ≡ 1 = ap (λ (xs : List ℕ). length xs) one in absurd (omega (arith, two))
none-left (Mode to mode_sub transmit code word) own address slots one left =
    no-command own None slots refl (data-unaddressed own (option_to_list word) slots left.1)

-- so a station stays as it was
struck-unmoved : (k : ℕ) (loads : List TimedLoad) (c : Channel) (start : ℕ) (hits : List Hit) (item : ItemData) (address : ℕ) (slots : List (Option Word))
    (station : Present) → addresses_named item.kind ≡ address ∷ [] → struck hits (command_words item.kind) ≡ None ∷ slots →
    (after k loads c start hits item station ≡ unmoved station) ⊎ ((order : Order) × Obeys k loads c start hits item station order) →
    after k loads c start hits item station ≡ unmoved station
struck-unmoved k loads c start hits item address slots station one none (inl same) = same
struck-unmoved k loads c start hits item address slots station one none (inr found) =
    absurd (none-some found.0 (sym (ap (last_order (address_of_station station)) none
    ∙ none-left item.kind (address_of_station station) address slots one (subst (AreLeftOf (command_words item.kind)) none (struck-left hits (command_words item.kind))))
    ∙ found.1.found))

-- and so does each
pub struck-for-nobody : (k : ℕ) (loads : List TimedLoad) (c : Channel) (start : ℕ) (hits : List Hit) (item : ItemData) (stations : List Present)
    (address : ℕ) (slots : List (Option Word)) → addresses_named item.kind ≡ address ∷ [] → struck hits (command_words item.kind) ≡ None ∷ slots →
    map (after_command k loads (command_burst c start hits item)) stations ≡ map unmoved stations
struck-for-nobody k loads c start hits item stations address slots one none =
    map-same (after_command k loads (command_burst c start hits item)) unmoved stations
    (λ station. struck-unmoved k loads c start hits item address slots station one none (obeys-or-not k loads c start hits item station))
