-- Texts in the language of loops, as parts of texts in that of chains.
--   at n before s      the state s of a loop, where n loops began and this was read before
--   raised             a derivation by grammars of loops is one of chains, up to where others are due
use Rattle.std.proofs.Common.{◌≡◌, ℕ, List, [], ◌∷◌, ◌++◌, map, refl, ap, subst}
use Rattle.algebra.proofs.Basics.{same_head, same_tail}
use Rattle.grammars.specs.Grammar.{Placed, sequence, either, many, rule}
use Rattle.grammars.specs.Derivation.{Mark, Derives, derives_nothing, derives_token, derives_change, derives_sequence, derives_left, derives_right, derives_none, derives_more, derives_rule}
use Rattle.grammars.specs.Embedded.{lift}
use Rattle.poly_text.specs.Lexemes.{Lexeme}
use Rattle.poly_text.specs.Reasons.{Reason}
use Rattle.loop_text.specs.Loops as loops
use Rattle.loop_text.specs.Loops.{LoopState, loop_language}
use Rattle.loop_text.specs.Chains.{Earlier, ChainState, Rule, loops_in_chains, chain_language}
use Rattle.loop_text.specs.Raising.{in_chain}

abbrev pub up : loops.Rule → Rule
up g = lift loops_in_chains g

abbrev pub Marks : Type 0
Marks = List (Mark (Placed Lexeme) Reason)

abbrev pub at : ℕ → Earlier → LoopState → ChainState
at n before s = in_chain n before s

module _ (n : ℕ) (before : Earlier) (ks : List loops.Rule)
    (hs : List Rule) (t : LoopState) (w : ChainState) (ns : Marks)
    (go_on : (s : LoopState) (ms : Marks) → Derives loop_language ks s ms t
    → Derives chain_language hs (at n before s) (ms ++ ns) w) where
  iteration : (a g : loops.Rule) (gs : List loops.Rule) {s : ChainState} {ms : Marks} → a ≡ g
      → Derives chain_language (up a ∷ map up gs ++ hs) s ms w
      → Derives chain_language (up g ∷ map up gs ++ hs) s ms w
  iteration a g gs {s} {ms} e d = subst (λ g. Derives chain_language (up g ∷ map up gs ++ hs) s ms
      w) e d

  raise : {xs : List loops.Rule} {s u : LoopState} {ms : Marks} → Derives loop_language xs s ms u
      → u ≡ t → (gs : List loops.Rule) → xs ≡ gs ++ ks
      → Derives chain_language (map up gs ++ hs) (at n before s) (ms ++ ns) w
  raise {xs = xs} {s = s} {u = u} {ms = ms} d e [] is =
      go_on s ms (subst (λ x. Derives loop_language ks s ms x) e
      (subst (λ l. Derives loop_language l s ms u) is d))
  raise derives_nothing e (g ∷ gs) is = absurd (cc)
  raise (derives_token h d) e (g ∷ gs) is =
      iteration _ g gs (same_head is) (derives_token h (raise d e gs (same_tail is)))
  raise (derives_change d) e (g ∷ gs) is =
      iteration _ g gs (same_head is) (derives_change (raise d e gs (same_tail is)))
  raise (derives_sequence {g = a} {h = b} d) e (g ∷ gs) is = iteration (sequence a b) g gs
      (same_head is)
      (derives_sequence (raise d e (a ∷ b ∷ gs) (ap (λ l. a ∷ b ∷ l) (same_tail is))))
  raise (derives_left {g = a} {h = b} d) e (g ∷ gs) is = iteration (either a b) g gs (same_head is)
      (derives_left (raise d e (a ∷ gs) (ap (λ l. a ∷ l) (same_tail is))))
  raise (derives_right {g = a} {h = b} d) e (g ∷ gs) is = iteration (either a b) g gs (same_head is)
      (derives_right (raise d e (b ∷ gs) (ap (λ l. b ∷ l) (same_tail is))))
  raise (derives_none {g = a} d) e (g ∷ gs) is = iteration (many a) g gs (same_head is)
      (derives_none (raise d e gs (same_tail is)))
  raise (derives_more {g = a} d) e (g ∷ gs) is = iteration (many a) g gs (same_head is)
      (derives_more (raise d e (a ∷ many a ∷ gs) (ap (λ l. a ∷ many a ∷ l) (same_tail is))))
  raise (derives_rule {n = m} {s = s} d) e (g ∷ gs) is = iteration (rule m) g gs (same_head is)
      (derives_rule (raise d e (loop_language.says m s.context ∷ gs)
      (ap (λ l. loop_language.says m s.context ∷ l) (same_tail is))))

  pub raised : (gs : List loops.Rule) (s : LoopState) (ms : Marks)
      → Derives loop_language (gs ++ ks) s ms t → Derives chain_language (map up gs ++ hs)
      (at n before s) (ms ++ ns) w
  raised gs s ms d = raise d refl gs refl
