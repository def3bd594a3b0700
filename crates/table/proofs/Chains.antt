-- What `all` over a range answers, as a test of every number of the range, and what `&&` makes of answers.
use Rattle.std.specs.Prelude.{◌≡◌, Bool, true, false, ◌&&◌, ℕ, ◌-◌, List}
use Rattle.std.specs.Iterator.{YieldsThen}
use Rattle.std.specs.List.{FoldsTo}
use Rattle.std.specs.Option.{MatchOption}
use Rattle.std.specs.Fn.{Called}
use Rattle.std.specs.declared.option.Option.TheVariants.{the_data}
use Rattle.std.specs.declared.ops.Range.{Range}
use Rattle.std.proofs.Common.{refl, sym, ◌∙◌}
use Rattle.std.proofs.iter.Yields.{nat_range_steps}
use Rattle.std.proofs.lemmas.Iterator.{YieldsList-from_range}
use Rattle.std.proofs.lemmas.Iterator.Search.{all_from_yields_List}
use Rattle.lists.specs.Lists.{from, every}
use Rattle.lists.proofs.Chains.{every_all, from_counted}
use denote.Param.Members.{Mut}

pub all_in : {F : Type 0} {g : Mut F (ℕ × Unit {0}) Bool} {u : Range ℕ} {f : F} {r : Bool} {first end : ℕ} (p : ℕ → Bool) (a n : ℕ) → first ≡ a → end - first ≡ n
    → (xs : List ℕ) × (o : the_data ℕ) × (j : F) × YieldsThen nat_range_steps (record { start = first; end = end }) xs o u × FoldsTo (λ p x q. Called g p (x, tt) true q) f xs j
    × MatchOption o (r ≡ true) (λ x. (r ≡ false) × ((h : F) × Called g j (x, tt) false h))
    → ((x : ℕ) (b : Bool) (q : F) → Called g f (x, tt) b q → (q ≡ f) × (b ≡ p x)) → every p (from a n) ≡ r
all_in {u = u} {f = f} {r = r} {first = first} p a n e h ran test =
    rw (every_all, from_counted, ← e)
    (sym (all_from_yields_List p u f r ran (YieldsList-from_range first _ n refl h) test))

pub and_then : {A B a b v : Bool} → A ≡ a → a ≡ true → B ≡ b → v ≡ b → v ≡ (A && B)
and_then {A} {B} {a} {b} {v} e f g h = rw (e ∙ f) (h ∙ sym g)

pub and_else : {A a v : Bool} (B : Bool) → A ≡ a → a ≡ false → v ≡ a → v ≡ (A && B)
and_else {A} {a} {v} B e f h = rw (e ∙ f) (h ∙ f)

pub and_assoc : (a b c : Bool) → ((a && b) && c) ≡ (a && (b && c))
and_assoc true b c = refl
and_assoc false b c = refl
