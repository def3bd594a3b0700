-- The configuration of the initial marking: each thread at the first place of its entry's root, and no bound name with a value.
use Rattle.scheme.specs.Scheme.{Scheme}
use Rattle.process.specs.States.{start}
use Rattle.readback.specs.Configurations.{spot, Configuration}

abbrev pub start_configuration : Scheme → Configuration
start_configuration S = record { at = λ θ. spot (S.root (S.entry θ)) 0; value = (start S).value }
