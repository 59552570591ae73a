-- The name of the sequence whose recurrence is next.
--   due_at                              it is that at the position
--   due_free, due_barred, due_other     a word is that name, the word `sequences`, or another
use Rattle.std.proofs.Common.{◌≡◌, ℕ, List, [], length, get_or, slice_get, bytes_eq, true, false, if◌then◌else◌, Some, None, sym, ap, ◌∙◌}
use Rattle.std.proofs.lemmas.Option.{get_or_from_slice_get}
use Rattle.loops.specs.Program.{Expr}
use Rattle.poly_text.specs.Reasons.{syntax, unknown}
use Rattle.loop_text.specs.Seqs.{SeqState, is_sequences, due_fault}
use Rattle.loop_text.specs.declared.sequence_firsts.Firsts.{Firsts}

pub due_at : (f : Firsts) (ns : List (Expr ℕ)) {i : ℕ} {name due : List ℕ} → length ns ≡ i
    → slice_get f.sequences i ≡ Some name → due ≡ name → get_or f.sequences (length ns) [] ≡ due
due_at f ns {i = i} {name = name} n there same = ap (λ k. get_or f.sequences k []) n
    ∙ get_or_from_slice_get f.sequences i name [] there ∙ sym same

module _ (s : SeqState) (due : List ℕ) (is : get_or s.context.sequences s.context.nexts [] ≡ due)
    (w : List ℕ) where
  pub due_free : bytes_eq w due ≡ true → due_fault s.context w ≡ None
  due_free e = ap (λ b. if b then None else Some (if is_sequences w then syntax else unknown))
      (ap (bytes_eq w) is ∙ e)

  pub due_barred : bytes_eq w due ≡ false → is_sequences w ≡ true
      → due_fault s.context w ≡ Some syntax
  due_barred e h = ap (λ b. if b then None else Some (if is_sequences w then syntax else unknown))
      (ap (bytes_eq w) is ∙ e) ∙ ap (λ b. Some (if b then syntax else unknown)) h

  pub due_other : bytes_eq w due ≡ false → is_sequences w ≡ false
      → due_fault s.context w ≡ Some unknown
  due_other e h = ap (λ b. if b then None else Some (if is_sequences w then syntax else unknown))
      (ap (bytes_eq w) is ∙ e) ∙ ap (λ b. Some (if b then syntax else unknown)) h
