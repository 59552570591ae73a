use Rattle.std.proofs.Common.{◌≡◌, ◌≢◌, ℕ, sym, ◌∙◌, arith}
use Rattle.loop_model.specs.Words.{when_word}
use Rattle.poly_text.specs.declared.lexemes.Lexeme as code
use Rattle.poly_text.specs.declared.lexemes.Lexeme.TheVariants as code_lexeme
use Rattle.loop_text.proofs.GuardReads.{guard_begins, guard_more, guard_goes_on, guard_barred, guard_ends}
use Rattle.loop_text.proofs.Answering.{start, over, ends, sign_no_end, keyword_no_end, loop_language}
use Rattle.loop_text.proofs.branches.read_guard.Goals as goal

-- a byte of a guard isn't the end
item_no_end : (l : code.Lexeme) (b : ℕ) → l ≡ code_lexeme.Item b → l ≢ code_lexeme.End
item_no_end l b is e = let clash : code_lexeme.Item b ≡ code_lexeme.End = sym is ∙ e in cc

pub loop-at-init : goal.loop-at-init
loop-at-init c = record {
  falls = let fallen = c.next_item-at.ensures.falls (keyword_no_end c.args.cursor.token.lexeme
      when_word c.requires) in omega (arith, fallen);
  goes = λ s.
      let at = c.next_item-at.result in
      over (start loop_language _ _ _) _ _ _ (guard_begins s c.args.cursor c.requires at
      c.next_item-at.ensures.items);
}

pub returns-in_default-clause-goes : goal.returns-in_default-clause-goes
returns-in_default-clause-goes c =
    λ s. rw c.syntax_fault.ensures (guard_barred s c.loop-at.at c.in_default.not-Item
    ∙ sym (c.loop-at.invariant.goes s).same)

pub returns-then-is_sign-clause-goes : goal.returns-then-is_sign-clause-goes
returns-then-is_sign-clause-goes c = λ s.
    let next = c.next_item-at-in-loop-at.result in
    ends (over (c.loop-at.invariant.goes s) _ _ _ (guard_more s c.loop-at.at c.in-Item.field-0
    c.in-Item.is next c.next_item-at-in-loop-at.ensures.items))
    (guard_ends s next (sym c.if-is_sign.ensures) c.next.result c.next.ensures.tokens)

pub returns-then-is_sign-clause-falls : goal.returns-then-is_sign-clause-falls
returns-then-is_sign-clause-falls c =
    let item = c.next_item-at-in-loop-at.ensures.falls (item_no_end c.loop-at.at.token.lexeme
    c.in-Item.field-0 c.in-Item.is) in
    let brace = c.next.ensures.falls (sign_no_end c.next_item-at-in-loop-at.result.token.lexeme 123
    (sym c.if-is_sign.ensures)) in
    omega (arith, item, brace, c.loop-at.invariant.falls)

pub loop-at-preserved : goal.loop-at-preserved
loop-at-preserved c = record {
  falls = let item = c.next_item-at-in-loop-at.ensures.falls (item_no_end c.loop-at.at.token.lexeme
      c.in-Item.field-0 c.in-Item.is) in omega (arith, item, c.loop-at.invariant.falls);
  goes = λ s.
      let next = c.next_item-at-in-loop-at.result in
      over (over (c.loop-at.invariant.goes s) _ _ _ (guard_more s c.loop-at.at c.in-Item.field-0
      c.in-Item.is next c.next_item-at-in-loop-at.ensures.items))
      _ _ _ (guard_goes_on s next (sym c.if-is_sign.ensures));
}
