-- What the view leaves in a lent buffer and hands back, from what the planner answers.
use mathlib.Core.Path.{◌∙◌, ap}
use mathlib.Core.List.{List}
use Prim.Native.Nat.{ℕ}
use lib.IntN.{ℤ}
use Rattle.records.specs.Layout.{Layout}
use Rattle.std.proofs.Common.{Result}
use Rattle.answers.specs.declared.Refusal.{Refusal}
use Rattle.planner.specs.declared.StartView.{StartView}
use Rattle.planner.specs.View.{Views}
use Rattle.handed.specs.Start.{view_told, StartPut}
use Rattle.one_book.specs.Loaded.{StartWritten}

module _ (L : Layout) (s : List ℕ) (k : ℕ) (v : Result StartView Refusal) (h : Views L s k v) where
  pub start_seen : (before after : List ℤ) (n : ℕ) → StartPut v before after n → StartWritten L s k before after n
  start_seen before after n p =
      record {
        written = λ w e room. p.written w (h.answer ∙ e) room;
        refused-untouched = λ r e. p.refused-untouched r (h.answer ∙ e);
        short-untouched = p.short-untouched;
        told = p.told ∙ ap view_told h.answer;
      }
