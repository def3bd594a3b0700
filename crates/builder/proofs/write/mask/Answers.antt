use Rattle.std.proofs.Common.{rules, tests}
use Rattle.std.proofs.lemmas.Iterator.{YieldsList-from_slice}
use Rattle.std.proofs.lemmas.Iterator.Search.{any_from_yields_List}
use mathlib.Core.Path.{◌≡◌, refl, sym, ap, ◌∙◌}
use mathlib.Core.Bool.{◌||◌}
use mathlib.Core.List.{List, [], ◌∷◌}
use Prim.Native.Nat.{ℕ}
use Rattle.std.specs.List.{list_any}
use lib.Dec.{eqb}
use Rattle.lists.specs.Lists.{same, member}
use Rattle.lists.proofs.Tests.{same-sym}
use Rattle.builder.specs.Inner.Writing.{mask_of}
use Rattle.builder.proofs.write.mask.Goals.{After-any}
use Rattle.builder.proofs.write.mask.Goals as goal

-- a number that the search finds is a member
found : (x : ℕ) (ms : List ℕ) → list_any (λ y. eqb y x) ms ≡ member x ms
unfolding member same
found x [] = refl
found x (m ∷ ms) = ap (λ b. b || list_any (λ y. eqb y x) ms) (same-sym m x) ∙ ap (λ b. same x m || b) (found x ms)

search-is : (c : After-any) → c.any.result ≡ member c.args.x c.args.rise.now
search-is c =
    any_from_yields_List (λ y. eqb y c.args.x) _ _ c.any.result c.any.ensures.ran (YieldsList-from_slice c.args.rise.now cc) (λ x b q k. search (rules, tests))
    ∙ found c.args.x c.args.rise.now

pub returns-then-any : goal.returns-then-any
unfolding mask_of
returns-then-any c = rw (sym (search-is (goal.at.returns-then-any c).After-any) ∙ c.if-any.true)

pub returns-else-any : goal.returns-else-any
unfolding mask_of
returns-else-any c = rw (sym (search-is (goal.at.returns-else-any c).After-any) ∙ c.if-any.false)
