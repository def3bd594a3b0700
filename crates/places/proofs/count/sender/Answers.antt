use Rattle.std.proofs.Common.{not, sym, refl, ap, ◌∙◌}
use Rattle.lists.specs.Lists.{same}
use Rattle.scheme.specs.Words.{branch_name}
use Rattle.places.specs.Plan.{reach_in}
use Rattle.places.specs.Inner.Counting.{bound_bit}
use Rattle.places.proofs.NodeCounts.{publics-counted, privates-counted, privates-small}
use Rattle.places.proofs.count.sender.Goals as goal

pub returns : goal.returns
returns c =
    let a = c.args in
    let w = a.table.now in
    let x = a.index.now in
    let channel-is = c.field4-channel.ensures.is in
    let name-is = c.field4-name.ensures.is in
    let r = c.reach_of-sent.ensures ∙ ap (reach_in x) name-is in record {
      branch-is = refl;
      thread-is = c.branch_thread.ensures.is;
      channel-is = channel-is;
      name-is = name-is;
      values-are = c.reach_of.ensures ∙ ap (reach_in x) channel-is;
      channels-are = c.bound.ensures ∙ ap (bound_bit w) channel-is;
      names-are = c.bound-2.ensures ∙ ap (bound_bit w) name-is;
      publics-are = sym (publics-counted w c.requires.accepted x c.requires (branch_name w a.send) c.reach_of-sent.result c.publics_of.result
          c.privates_of.result r c.publics_of.ensures.0 c.privates_of.ensures);
      privates-are = sym (privates-counted w c.requires.accepted x c.requires (branch_name w a.send) c.reach_of-sent.result c.publics_of.result
          c.privates_of.result r c.publics_of.ensures.0 c.privates_of.ensures);
      few-publics = c.publics_of.ensures.1;
      few-privates = privates-small w x c.requires (not (same c.reach_of-sent.result.restricted 0)) c.privates_of.result c.privates_of.ensures;
    }
