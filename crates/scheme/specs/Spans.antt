-- The numbers that an entry names, and tallies of them.
use Rattle.std.specs.Prelude.{List, [], ◌∷◌, ℕ, set}
use Rattle.lists.specs.Lists.{pick, bit, same, word, from}
use Rattle.scheme.specs.Words.{root, first_formal, formal_count, node_first, node_second, is_new, branch_name, next, is_receive}
use Rattle.scheme.specs.Words.{branch_count_of, argument_count_of}
use Rattle.scheme.specs.declared.spans.Source.{Source}
use Rattle.scheme.specs.declared.spans.Source.TheVariants.{Roots, Formals, NewChildren, NewNames, NextNodes, ReceivedNames, Branches, Arguments}

abbrev pub span_first_of : List ℕ → Source → ℕ → ℕ
span_first_of w Roots i = root w i
span_first_of w Formals i = first_formal w i
span_first_of w NewChildren i = node_second w i
span_first_of w NewNames i = node_first w i
span_first_of w NextNodes i = next w i
span_first_of w ReceivedNames i = branch_name w i
span_first_of w Branches i = node_first w i
span_first_of w Arguments i = node_second w i

abbrev pub span_count_of : List ℕ → Source → ℕ → ℕ
span_count_of w Roots i = 1
span_count_of w Formals i = formal_count w i
span_count_of w NewChildren i = bit (is_new w i)
span_count_of w NewNames i = bit (is_new w i)
span_count_of w NextNodes i = 1
span_count_of w ReceivedNames i = bit (is_receive w i)
span_count_of w Branches i = branch_count_of w i
span_count_of w Arguments i = argument_count_of w i

abbrev pub span_of : List ℕ → Source → ℕ → List ℕ
span_of w source i = from (span_first_of w source i) (span_count_of w source i)

-- one more at x, and no more than two
unfoldable pub tallied : List ℕ → ℕ → List ℕ
tallied counts x = set counts x (pick (same (word counts x) 0) 1 2)

unfoldable pub tally_all : List ℕ → List ℕ → List ℕ
tally_all counts [] = counts
tally_all counts (x ∷ xs) = tally_all (tallied counts x) xs
