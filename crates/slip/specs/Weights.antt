-- Weights that name no entry, beside a scale.
use Rattle.std.specs.Prelude.{ℤ, pos}
use Rattle.slip.specs.declared.Weights.{Weights}

abbrev pub no_weights : ℤ → Weights
no_weights scale =
    record {
      scale = scale;
      count = pos 0;
      first = pos 0;
      first_weight = pos 0;
      second = pos 0;
      second_weight = pos 0;
      third = pos 0;
      third_weight = pos 0;
    }
