-- Of the outputs, only one that is no input can have the byte of a token, and then the inputs get their tokens back.
use Rattle.std.proofs.Common.{List, ℕ, refl, ap, ◌∙◌}
use Rattle.net.specs.Firing.{put}
use Rattle.summary.specs.Inner.Marks.{is_any_marked}
use Rattle.summary.proofs.Painting.{put-again, marked-is}
use Rattle.summary.proofs.contact.Goals as goal

pub returns : goal.returns
returns c =
    let m = c.args.marking.now in
    let I = c.args.arcs.inputs.now in
    let O = c.args.arcs.outputs.now in
    let p = c.put_all.ensures in (
      c.put_all-2.ensures ∙ ap (λ (l : List ℕ). put 1 l I) p ∙ put-again m I O c.requires.2,
      c.any_marked-found.ensures ∙ ap (λ (l : List ℕ). is_any_marked l O) p ∙ marked-is m I O O _ refl c.requires.1,
    )
