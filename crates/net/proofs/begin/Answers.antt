-- Every byte is cleared, then the initial places get their tokens.
use Rattle.std.proofs.Common.{◌≡◌, ◌+◌, length, ap, ◌∙◌, arith}
use Rattle.lists.specs.Lists.{word}
use Rattle.net.specs.Image.{place_count_of}
use Rattle.net.specs.Firing.{put}
use Rattle.net.proofs.Images.{header, initial-ascend, part}
use Rattle.net.proofs.Steps.{initial-is}
use Rattle.net.proofs.begin.Goals as goal

pub bounds-image-4 : goal.bounds-image-4
bounds-image-4 c = let s = header _ c.requires.0 in omega arith

pub slice_bounds-put_all-end : goal.slice_bounds-put_all-end
slice_bounds-put_all-end c = let s = header _ c.requires.0 in omega arith

pub put_all-requires : goal.put_all-requires
put_all-requires c =
    let e : length c.fill.new.self ≡ place_count_of c.args.image.now = c.fill.ensures.len ∙ c.requires.1 in
    rw (e, part c.args.image.now 8 (8 + word c.args.image.now 4) (omega arith)) (initial-ascend _ c.requires.0)

pub returns : goal.returns
returns c =
    initial-is _ c.args.marking.now _ _ c.requires.1 (c.fill.ensures.after (λ y e. e))
    (c.put_all.ensures ∙ ap (put 1 c.fill.new.self) (part c.args.image.now 8 (8 + word c.args.image.now 4) (omega arith)))
