use Rattle.std.proofs.Common.{◌≡◌, ◌≢◌, ◌-◌, ◌++◌, ◌∷◌, [], ℕ, length, ap, sym, ◌∙◌, arith}
use Rattle.program_text.specs.declared.lexemes.Lexeme as code
use Rattle.program_text.specs.declared.lexemes.Lexeme.TheVariants as code_lexeme
use Rattle.program_text.specs.Guards.{blanks}
use Rattle.program_text.specs.GuardReads.{with_text}
use Rattle.program_text.proofs.GuardReads.{guard_more, guard_goes_on, guard_barred, guard_ends}
use Rattle.program_text.proofs.Answering.{over}
use Rattle.program_text.proofs.guards.read_guard_text.Goals as goal

item_no_end : (l : code.Lexeme) (b : ℕ) → l ≡ code_lexeme.Item b → l ≢ code_lexeme.End
item_no_end l b is e = let clash : code_lexeme.Item b ≡ code_lexeme.End = sym is ∙ e in cc

pub returns-in_default : goal.returns-in_default
returns-in_default c = record {
  reads = λ s. rw c.syntax_fault.ensures (guard_barred (with_text c.loop-at.text.items s)
      c.loop-at.at
      c.in_default.not-Item ∙ sym (c.loop-at.invariant.goes s).same);
  falls = tt;
}

pub returns-then-is_sign-clause-reads : goal.returns-then-is_sign-clause-reads
returns-then-is_sign-clause-reads c = (
  sym c.if-is_sign.ensures,
  λ s.
      let text = c.loop-at.text.items in
      let at = c.loop-at.at in
      let b = c.in-Item.byte in
      let next = c.next_item-at-in-loop-at.result in
      let texts : c.push.new.self.items ≡ text ++ blanks (at.token.at - length text) ++ b ∷ [] =
      c.in_ok-push.ensures.items ∙ ap (λ xs. xs ++ b ∷ []) c.in_ok-pad.ensures in
      rw texts ((over (c.loop-at.invariant.goes s) _ _ _ (guard_more s at text b c.in-Item.is next
      c.next_item-at-in-loop-at.ensures.items)).same
      ∙ guard_ends _ next (sym c.if-is_sign.ensures)),
)

pub loop-at-preserved : goal.loop-at-preserved
loop-at-preserved c = record {
  falls = let item = c.next_item-at-in-loop-at.ensures.falls (item_no_end c.loop-at.at.token.lexeme
      c.in-Item.byte c.in-Item.is) in omega (arith, item, c.loop-at.invariant.falls);
  goes = λ s.
      let text = c.loop-at.text.items in
      let at = c.loop-at.at in
      let b = c.in-Item.byte in
      let next = c.next_item-at-in-loop-at.result in
      let texts : c.push.new.self.items ≡ text ++ blanks (at.token.at - length text) ++ b ∷ [] =
      c.in_ok-push.ensures.items ∙ ap (λ xs. xs ++ b ∷ []) c.in_ok-pad.ensures in
      rw texts (over (over (c.loop-at.invariant.goes s) _ _ _ (guard_more s at text b c.in-Item.is
      next c.next_item-at-in-loop-at.ensures.items)) _ _ _
      (guard_goes_on _ next (sym c.if-is_sign.ensures)));
}
