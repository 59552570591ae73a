use Rattle.std.proofs.Common.{◌≡◌, sym, ap, ◌∙◌, List, ℕ, [], length, true, false, Ok, arith}
use Rattle.poly_text.specs.CursorView.{behind}
use Rattle.poly_text.specs.Reasons.{syntax, unless}
use Rattle.poly_text.specs.Kinds.{word_in}
use Rattle.poly_text.proofs.Paths.{reading_change}
use Rattle.loop_text.specs.Loops.{locals, locals_fault, locals_word, local_name, word_locals, LoopContext}
use Rattle.loop_text.proofs.WordReads.{named_here, no_name_here, word_here, word_goes, word_fails}
use Rattle.loop_text.proofs.Answering.{sequence, change, optional, rest, seen_lexeme, continued, then_on, here, at_left, at_right, no_first, comma_list, sign, Rule, loop_language, with_names}
use Rattle.loop_text.proofs.names.read_locals.Goals as goal

abbrev named_rule : Rule
named_rule = sequence (comma_list local_name) (sign 59)

abbrev stays : LoopContext → List ℕ → LoopContext
stays c w = c

pub returns-in_default-clause-reads : goal.returns-in_default-clause-reads
returns-in_default-clause-reads c =
    let k = c.args.cursor in
    let s = with_names c.args.names.variables [] in
    ap (λ ls. Ok (with_names c.args.names.variables ls, rest k)) c.requires.none
    ∙ sym (at_right loop_language locals (change (λ c. c) (λ c v. v)) s k
    (no_name_here k c.in_default.not-Name)
    ∙ reading_change loop_language (λ c. c) (λ c v. v) s (here k) (behind k))

pub returns-then-not-is_locals-clause-reads : goal.returns-then-not-is_locals-clause-reads
returns-then-not-is_locals-clause-reads c =
    let k = c.args.cursor in
    let w = c.in-Name.word in
    let s = with_names c.args.names.variables [] in
    let other : locals_word (word_in (seen_lexeme k.token.lexeme)) ≡ false =
    ap locals_word (word_here k w c.in-Name.is) ∙ sym c.if-not-is_locals.ensures in
    rw c.syntax_fault.ensures
    (no_first loop_language word_locals named_rule s (rest k) _ (word_fails locals_fault stays s k
    syntax (named_here k w c.in-Name.is) (ap (λ b. unless b syntax) other))
    ∙ sym (at_left loop_language locals (change (λ c. c) (λ c v. v)) s k
    (named_here k w c.in-Name.is)))

pub returns-clause-reads : goal.returns-clause-reads
returns-clause-reads c =
    let k = c.args.cursor in
    let w = c.in-Name.word in
    let s = with_names c.args.names.variables [] in
    let is : locals_word (word_in (seen_lexeme k.token.lexeme)) ≡ true =
    ap locals_word (word_here k w c.in-Name.is) ∙ sym c.if-not-is_locals.ensures in
    continued loop_language (optional locals) named_rule s s _ k c.next.result
    c.read_local_names.result
    (at_left loop_language locals (change (λ c. c) (λ c v. v)) s k (named_here k w c.in-Name.is)
    ∙ then_on loop_language word_locals named_rule s (rest k) s (rest c.next.result)
    (word_goes locals_fault stays s k (named_here k w c.in-Name.is)
    (ap (λ b. unless b syntax) is) c.next.result c.next.ensures.tokens))
    c.read_local_names.ensures.reads

pub returns-in_default-clause-few : goal.returns-in_default-clause-few
returns-in_default-clause-few c = let none = ap length c.requires.none in omega (arith, none)
