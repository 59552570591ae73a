use Rattle.std.proofs.Common.{◌≡◌, length}
use Rattle.std.proofs.lemmas.List.Elements.{All-same, All-push}
use Rattle.worked_rows.proofs.polynomial_rows.poly.Goals as goal

pub loop-exponents-preserved : goal.loop-exponents-preserved
loop-exponents-preserved c =
    All-same (λ t. length t.mono ≡ 2) c.push.new.self.items _ c.in_ok-push.ensures.items
    (All-push (λ t. length t.mono ≡ 2) c.loop-exponents.terms.items _
    c.loop-exponents.invariant c.in_ok-mono.ensures)
