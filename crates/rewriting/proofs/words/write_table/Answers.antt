use native.Mathlib.Omega.{arith}
use Rattle.rewriting.specs.Inner.Placing.{Placing}
use Rattle.rewriting.proofs.Laws.Placed.{placing}
use Rattle.rewriting.proofs.Laws.Sections.{all_listed}
use Rattle.rewriting.proofs.words.write_table.Goals.{After-number_copies}
use Rattle.rewriting.proofs.words.write_table.Goals as goal

placed : (c : After-number_copies) → Placing c.args.table.now c.number_copies.new.out
placed c = placing _ _ _ c.requires.1.rows _ c.number_copies.ensures

pub write_front-at-requires : goal.write_front-at-requires
write_front-at-requires c =
    record { counted = c.requires.1; placing = placed (goal.at.write_front-at-requires c).After-number_copies }

pub write_bodies-at-requires : goal.write_bodies-at-requires
write_bodies-at-requires c = (
  record {
    rows = c.requires.1.rows;
    writable = record {
      spared = record { ok = c.requires.1.rows.ok; right = c.requires.0 };
      placing = placed (goal.at.write_bodies-at-requires c).After-number_copies;
    };
  },
  omega arith,
)

pub write_back-requires : goal.write_back-requires
write_back-requires c = (
  record {
    rows = c.requires.1.rows;
    writable = record {
      spared = record { ok = c.requires.1.rows.ok; right = c.requires.0 };
      placing = placed (goal.at.write_back-requires c).After-number_copies;
    };
  },
  omega arith,
)

pub returns : goal.returns
returns c =
    all_listed _ _ _ _ _ _ _ _ c.write_front-at.ensures c.write_bodies-at.ensures c.write_back.ensures
