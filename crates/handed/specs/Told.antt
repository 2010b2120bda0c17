-- What is handed back as one number: a count or a refusal, and what the checker of slips says.
use Rattle.std.specs.Prelude.{cond, ℕ, ◌+◌, ◌*◌, eqb, Result, Ok, Err}
use Rattle.answers.specs.declared.Refusal.{Refusal}
use Rattle.slip.specs.declared.Verdict.{Verdict}
use Rattle.slip.specs.declared.Verdict.TheVariants.{Refused, Yes, No}

-- of an accepted book a count, which is below 65,536; of a refused one its number and record, so that it is 65,536 or more
abbrev pub told_of : Result ℕ Refusal → ℕ
told_of (Ok count) = count
told_of (Err r) = 65536 * r.number + r.at

-- 1 is yes, 0 is no, and a refusal is 65,536 times its number plus its record; 0 for one with number 0, which no cause has
abbrev pub verdict_told : Verdict → ℕ
verdict_told (Refused x) = cond (eqb x.number 0) 0 (told_of (Err x))
verdict_told Yes = 1
verdict_told No = 0
