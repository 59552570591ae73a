use Rattle.std.proofs.Common.{◌≡◌, ◌↔◌, IsTrue, [], length, sym, ap, subst, arith}
use Rattle.std.proofs.lemmas.Bool.Decides.{nat_tests}
use Rattle.std.proofs.lemmas.List.{nil_from_length, length-map}
use Rattle.poly.specs.Seen.{terms_in}
use Rattle.poly.specs.View.{term_of, terms_of}
use Rattle.divide.specs.Current.{done_of, left_of}
use Rattle.divide.proofs.Parts.{zero_of, some_left}
use Rattle.divide.proofs.current.Current.is_zero.Goals as goal

pub returns-then-is_empty : goal.returns-then-is_empty
returns-then-is_empty g c =
    let s = c.args.self.now in
    let none : length s.done.items ≡ 0 = grind (arith, nat_tests, c.if-is_empty.ensures) in
    zero_of c.is_zero.result (done_of s) (terms_in s.rest)
    (ap (terms_of g.K.Ring.meaning) (nil_from_length s.done.items none)) c.is_zero.ensures

pub returns-else-is_empty : goal.returns-else-is_empty
returns-else-is_empty g c =
    let s = c.args.self.now in
    let size = length-map s.done.items (term_of g.K.Ring.meaning) in
    subst (λ b. IsTrue b ↔ (left_of s ≡ [])) (sym c.if-is_empty.false)
    (some_left (done_of s) (terms_in s.rest) (λ e. let none = ap length e in
    grind (arith, nat_tests, c.if-is_empty.ensures, size, none)))
