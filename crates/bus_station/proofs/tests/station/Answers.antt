use Rattle.std.proofs.Common.{◌≡◌, ℕ, ◌^◌, [], refl, arith, rules}
use Rattle.std.proofs.Math.Nat.{zero-div}
use Rattle.bus_formats.specs.Accepted.{ListsOnly}
use Rattle.bus_station.proofs.tests.station.Goals as goal

-- nothing is listed
none-listed : (P : ℕ → Type 0) → ListsOnly P 0
none-listed P n h = absurd (let none = zero-div (2 ^ n) in omega (arith, h, none))

pub new-requires-2 : goal.new-requires-2
new-requires-2 c = record {
  ranges = record {
    terminal = record {
      address = c.requires.address;
      delay = omega arith;
      vector = omega arith;
      bit = omega arith;
      no_receive = none-listed _;
      no_transmit = none-listed _;
      no_mode = none-listed _;
      loads = search rules;
    };
    frames = c.requires.frames.ranges;
    repeat = c.requires.frames.rounds;
  };
  frames = c.requires.frames.few;
  items = c.requires.frames.items;
}

pub returns : goal.returns
returns c = (_, _, [], [], [], c.new-2.ensures.stands, refl)
