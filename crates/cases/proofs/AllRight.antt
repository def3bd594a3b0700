-- Every case of the table has its answer: one proof, by computing.
use mathlib.Core.Path.{refl}
use mathlib.Core.List.{◌++◌}
use Rattle.cases.specs.Cases.{rewriting_cases, private_cases, arriving_cases, summary_cases, settling_cases, foreign_runs, cases, AllRight, ForeignRight}
use Rattle.cases.proofs.Computing.{everything}

pub foreign-right : ForeignRight foreign_runs
unfolding everything
foreign-right = (refl, refl, (refl, refl, tt))

settling-right : AllRight settling_cases
unfolding everything
settling-right = (refl, (refl, tt))

summaries-right : AllRight (summary_cases ++ settling_cases)
unfolding everything
summaries-right = (refl, (refl, (refl, settling-right)))

arriving-right : AllRight (arriving_cases ++ (summary_cases ++ settling_cases))
unfolding everything
arriving-right = (refl, (refl, (refl, (refl, (refl, (refl, summaries-right))))))

privates-right : AllRight (private_cases ++ (arriving_cases ++ (summary_cases ++ settling_cases)))
unfolding everything
privates-right = (refl, (refl, (refl, (refl, (refl, (refl, (refl, (refl, (refl, (refl, (refl, arriving-right)))))))))))

rewriting-right : AllRight (rewriting_cases ++ (private_cases ++ (arriving_cases ++ (summary_cases ++ settling_cases))))
unfolding everything
rewriting-right = (refl, (refl, (refl, (refl, (refl, (refl, (refl, (refl, privates-right))))))))

pub all_right : AllRight cases
unfolding everything
all_right =
    (refl, (refl, (refl, (refl, (refl, (refl, (refl, (refl, (refl, (refl, (refl, (refl, (refl, (refl, (refl, (refl, rewriting-right))))))))))))))))
