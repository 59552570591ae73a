-- A small language's grammar leads from place to place in the large one, where the small language's places are places there.
--   lifted_leads      so it does
use Rattle.std.proofs.Common.{◌≡◌, List, sym, ◌∙◌}
use Rattle.grammars.specs.Kinds.{has}
use Rattle.grammars.specs.Grammar.{State, Grammar, token, change, sequence, either, many, rule, Language, after_token, after_change}
use Rattle.grammars.specs.Embedded.{Embedding, lift, part, with_part}
use Rattle.grammars.proofs.Kept.{Leads}

module _ {M N K Y C D V W R A B : Type 0} (E : Embedding M N C D V W) (S : Language M K Y D W R)
    (L : Language N K Y C V R) (kinds : (ks : List K) (y : Y) → has L.same ks (L.kind y)
    ≡ has S.same ks (S.kind y))
    (small : A → State D W → Type 0) (small_called : M → A → A → Type 0)
    (holds : B → State C V → Type 0) (called : N → B → B → Type 0) where
  -- places of the large language that are those of the small one, with the large one's rest
  pub record AreWrapped (wrap : A → B) : Type 0 where
    pub rules : (n : M) (a b : A) → small_called n a b → called (E.rule_of n) (wrap a) (wrap b)
    pub part_has : (a : A) (s : State C V) → holds (wrap a) s → small a (part E s)
    pub put_back : (a b : A) (s : State C V) (t : State D W) → holds (wrap a) s → small b t
        → holds (wrap b) (with_part E t s)
    pub stays : (a b : A) (s : State C V) → holds (wrap a) s → small b (part E s)
        → holds (wrap b) s

  module _ (wrap : A → B) (is : AreWrapped wrap) where
    pub lifted_leads : (a b : A) (g : Grammar M K Y D W R) → Leads S small small_called a g b
        → Leads L holds called (wrap a) (lift E g) (wrap b)
    lifted_leads a b (token ks fault next build) k = λ s x h e f.
        is.put_back a b s (after_token next build (part E s) x) h
        (k (part E s) x (is.part_has a s h) (sym (kinds ks x.lexeme) ∙ e) f)
    lifted_leads a b (change next build) k = λ s h.
        is.put_back a b s (after_change next build (part E s)) h
        (k (part E s) (is.part_has a s h))
    lifted_leads a b (sequence g h) (c, k) =
        (wrap c, (lifted_leads a c g k.0, lifted_leads c b h k.1))
    lifted_leads a b (either g h) k = (lifted_leads a b g k.0, lifted_leads a b h k.1)
    lifted_leads a b (many g) k = (
      lifted_leads a a g k.0,
      (λ s h. is.stays a b s h (k.1 (part E s) (is.part_has a s h))),
    )
    lifted_leads a b (rule n) k = is.rules n a b k
