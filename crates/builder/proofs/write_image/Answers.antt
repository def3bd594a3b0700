use mathlib.Core.Path.{refl, ◌∙◌}
use Prim.Native.Nat.{◌≤◌}
use native.Mathlib.Omega.{arith}
use lib.ListN.{length}
use Rattle.places.specs.Image.{image_of}
use Rattle.places.proofs.Size.{image-below}
use Rattle.places.proofs.Plans.{few-places, few-tokens}
use Rattle.places.proofs.WholeSums.{few-totals, words_are}
use Rattle.builder.proofs.Building.{inside-nodes, inside-pairs, all_there, no_room, all-fits}
use Rattle.builder.proofs.write_image.Goals as goal

pub length_of-words-requires : goal.length_of-words-requires
length_of-words-requires c =
    let w = c.args.table.now in
    let x = c.args.index.now in
    let ok = c.requires.0.accepted in
    let L = c.requires.0 in
    let e = c.requires.1 in
    (few-tokens w x L, few-totals w ok x L c.args.totals e)

pub returns-then-out-words : goal.returns-then-out-words
returns-then-out-words c =
    let w = c.args.table.now in
    let x = c.args.index.now in
    let ok = c.requires.0.accepted in
    let L = c.requires.0 in
    let e = c.requires.1 in
    no_room w _ _ (c.length_of-words.ensures ∙ words_are w ok x L c.args.totals e _ refl) c.if-out-words.true

pub header-requires : goal.header-requires
header-requires c =
    let w = c.args.table.now in
    let x = c.args.index.now in
    let ok = c.requires.0.accepted in
    let L = c.requires.0 in
    let e = c.requires.1 in
    let n = words_are w ok x L c.args.totals e _ refl in
    (few-places w x L, few-tokens w x L, few-totals w ok x L c.args.totals e, omega (arith, n, image-below w ok))

pub nodes-next-requires : goal.nodes-next-requires
nodes-next-requires c =
    let w = c.args.table.now in
    let x = c.args.index.now in
    let ok = c.requires.0.accepted in
    let L = c.requires.0 in
    let e = c.requires.1 in
    let n = c.length_of-words.ensures ∙ words_are w ok x L
    c.args.totals e _ refl in
    let room : length (image_of w) ≤ length c.args.out.now = omega
    (arith, n, c.if-out-words.false) in (
      L,
      rw c.token_count-base.ensures.is (inside-nodes w ok x L _ e _ _ _ room
          c.header.ensures
          c.initial.ensures),
    )

pub communications-requires : goal.communications-requires
communications-requires c =
    let w = c.args.table.now in
    let x = c.args.index.now in
    let ok = c.requires.0.accepted in
    let L = c.requires.0 in
    let e = c.requires.1 in
    let n = c.length_of-words.ensures ∙ words_are w ok x L c.args.totals e _ refl in
    let room : length (image_of w) ≤ length c.args.out.now = omega
    (arith, n, c.if-out-words.false) in (
      L,
      c.requires.2,
      inside-pairs w ok x L _ e _ _ _ room c.header.ensures c.initial.ensures _ (rw
          c.token_count-base.ensures.is at c.nodes-next.ensures),
    )

pub returns : goal.returns
returns c =
    let w = c.args.table.now in
    let x = c.args.index.now in
    let ok = c.requires.0.accepted in
    let L = c.requires.0 in
    let e = c.requires.1 in
    let n = c.length_of-words.ensures ∙ words_are w ok x L c.args.totals e _ refl in
    let room : length (image_of w) ≤ length c.args.out.now = omega (
      arith,
      n,
      c.if-out-words.false,
    ) in
    all-fits w _ _ _ n c.if-out-words.false
    (all_there w ok x L _ e _ _ _ room c.header.ensures c.initial.ensures _ _ (rw c.token_count-base.ensures.is at
    c.nodes-next.ensures)
    c.communications.ensures)
