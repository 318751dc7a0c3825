-- The sixteen runs come out as document 01 writes them: the definition is computed.
use mathlib.Core.Path.{refl}
use Rattle.model.specs.SixteenRuns.{SixteenRuns, sixteen}
use Rattle.model.proofs.Open.{everything}

pub sixteen_runs : SixteenRuns
unfolding sixteen everything
sixteen_runs = refl
