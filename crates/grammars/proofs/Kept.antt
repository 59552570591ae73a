-- What reading keeps, and what it leads to.
--   Keeps g        the tokens and changes of g keep the property P of states; read_kept: then what is read keeps it;  KeepAll gs: so does each of the gs
--   Leads a g b    A is the type of places in a text, `holds a s` says what holds of the state s at the place a, and `called n a b` that the rule n leads from a
--                  to b: from what holds at a each sound token and each change of g leads on, up to what holds at b
--   Opens n s b    what the rule n says leads to b from some place at which the state s is
--   places_kept    then what is read leads from a to b
--   lifted_leads   a small language's grammar that keeps a property of its part of the state stays at a place
use Rattle.std.proofs.Common.{◌≡◌, List, [], ◌∷◌, refl, ap, sym, ◌∙◌, true, None}
use Rattle.algebra.proofs.Basics.{same_head, same_tail}
use Rattle.grammars.specs.Kinds.{has}
use Rattle.grammars.specs.Grammar.{Placed, State, Grammar, token, change, sequence, either, many, rule, Language, after_token, after_change}
use Rattle.grammars.specs.Derivation.{Mark, Derives, derives_nothing, derives_token, derives_change, derives_sequence, derives_left, derives_right, derives_none, derives_more, derives_rule}
use Rattle.grammars.specs.FirstFault.{sounds}
use Rattle.grammars.specs.Spelled.{IsRead}
use Rattle.grammars.specs.Embedded.{Embedding, lift, part, with_part}

module _ {N K Y C V R : Type 0} (L : Language N K Y C V R) (P : State C V → Type 0) where
  abbrev pub Keeps : Grammar N K Y C V R → Type 0
  Keeps (token ks fault next build) = (s : State C V) (x : Placed Y) → P s
      → has L.same ks (L.kind x.lexeme) ≡ true → fault s.context x.lexeme ≡ None
      → P (after_token next build s x)
  Keeps (change next build) = (s : State C V) → P s → P (after_change next build s)
  Keeps (sequence g h) = Keeps g × Keeps h
  Keeps (either g h) = Keeps g × Keeps h
  Keeps (many g) = Keeps g
  Keeps (rule n) = Unit {0}

  abbrev pub KeepAll : List (Grammar N K Y C V R) → Type 0
  KeepAll [] = Unit {0}
  KeepAll (g ∷ gs) = Keeps g × KeepAll gs

  module _ (rules : (n : N) (c : C) → Keeps (L.says n c)) where
    kept : {gs : List (Grammar N K Y C V R)} {s t : State C V} {ms : List (Mark (Placed Y) R)}
        → Derives L gs s ms t → (ts : List (Placed Y)) → ms ≡ sounds ts → KeepAll gs → P s → P t
    kept derives_nothing ts e k p = p
    kept (derives_token h w) [] e k p = absurd (cc)
    kept (derives_token {s = s} {x = x} h w) (t ∷ ts) e k p =
        kept w ts (same_tail e) k.1
        (k.0 s x p h (ap (λ (m : Mark (Placed Y) R). m.fault) (same_head e)))
    kept (derives_change {s = s} w) ts e k p = kept w ts e k.1 (k.0 s p)
    kept (derives_sequence w) ts e k p = kept w ts e (k.0.0, (k.0.1, k.1)) p
    kept (derives_left w) ts e k p = kept w ts e (k.0.0, k.1) p
    kept (derives_right w) ts e k p = kept w ts e (k.0.1, k.1) p
    kept (derives_none w) ts e k p = kept w ts e k.1 p
    kept (derives_more w) ts e k p = kept w ts e (k.0, k) p
    kept (derives_rule {n = n} {s = s} w) ts e k p = kept w ts e (rules n s.context, k.1) p

    pub read_kept : (gs : List (Grammar N K Y C V R)) (s t : State C V) (ts : List (Placed Y))
        → IsRead L gs s ts t → KeepAll gs → P s → P t
    read_kept gs s t ts w k p = kept w ts refl k p

module _ {N K Y C V R A : Type 0} (L : Language N K Y C V R) (holds : A → State C V → Type 0)
    (called : N → A → A → Type 0) where
  abbrev pub Leads : A → Grammar N K Y C V R → A → Type 0
  Leads a (token ks fault next build) b = (s : State C V) (x : Placed Y) → holds a s
      → has L.same ks (L.kind x.lexeme) ≡ true → fault s.context x.lexeme ≡ None
      → holds b (after_token next build s x)
  Leads a (change next build) b = (s : State C V) → holds a s → holds b (after_change next build s)
  Leads a (sequence g h) c = (b : A) × (Leads a g b × Leads b h c)
  Leads a (either g h) b = Leads a g b × Leads a h b
  Leads a (many g) b = Leads a g a × ((s : State C V) → holds a s → holds b s)
  Leads a (rule n) b = called n a b

  abbrev pub LeadAll : A → List (Grammar N K Y C V R) → A → Type 0
  LeadAll a [] b = (s : State C V) → holds a s → holds b s
  LeadAll a (g ∷ gs) c = (b : A) × (Leads a g b × LeadAll b gs c)

  -- what a rule says may lead on from another place, at which the state is too
  pub record Opens (n : N) (s : State C V) (b : A) : Type 0 where
    pub place : A
    pub there : holds place s
    pub leads : Leads place (L.says n s.context) b

  module _ (rules : (n : N) (a b : A) → called n a b → (s : State C V) → holds a s
      → Opens n s b) where
    led : {gs : List (Grammar N K Y C V R)} {s t : State C V} {ms : List (Mark (Placed Y) R)}
        → Derives L gs s ms t → (ts : List (Placed Y)) → ms ≡ sounds ts
        → (a c : A) → LeadAll a gs c → holds a s → holds c t
    led (derives_nothing {s = s}) ts e a c k p = k s p
    led (derives_token h w) [] e a c k p = absurd (cc)
    led (derives_token {s = s} {x = x} h w) (t ∷ ts) e a c (b, (g, k)) p =
        led w ts (same_tail e) b c k
        (g s x p h (ap (λ (m : Mark (Placed Y) R). m.fault) (same_head e)))
    led (derives_change {s = s} w) ts e a c (b, (g, k)) p = led w ts e b c k (g s p)
    led (derives_sequence w) ts e a c (b, ((d, (g, h)), k)) p = led w ts e a c (d, (g, (b, (h, k))))
        p
    led (derives_left w) ts e a c (b, ((g, h), k)) p = led w ts e a c (b, (g, k)) p
    led (derives_right w) ts e a c (b, ((g, h), k)) p = led w ts e a c (b, (h, k)) p
    led (derives_none {s = s} w) ts e a c (b, ((g, out), k)) p = led w ts e b c k (out s p)
    led (derives_more w) ts e a c (b, ((g, out), k)) p = led w ts e a c (a, (g, (b, ((g, out), k))))
        p
    led (derives_rule {n = n} {s = s} w) ts e a c (b, (g, k)) p = let o = rules n a b g s p in
        led w ts e o.place c (b, (o.leads, k)) o.there

    pub places_kept : (gs : List (Grammar N K Y C V R)) (s t : State C V) (ts : List (Placed Y))
        → IsRead L gs s ts t → (a b : A) → LeadAll a gs b → holds a s → holds b t
    places_kept gs s t ts w a b k p = led w ts refl a b k p

module _ {M N K Y C D V W R A : Type 0} (E : Embedding M N C D V W) (S : Language M K Y D W R)
    (L : Language N K Y C V R) (kinds : (ks : List K) (y : Y) → has L.same ks (L.kind y)
    ≡ has S.same ks (S.kind y))
    (holds : A → State C V → Type 0) (called : N → A → A → Type 0) (P : State C V → State D W
    → Type 0) where
  -- a place at which the part has the property, and stays whatever part with it is put back
  pub record IsRound (a : A) : Type 0 where
    pub rules : (n : M) → called (E.rule_of n) a a
    pub part_has : (s : State C V) → holds a s → P s (part E s)
    pub put_back : (s : State C V) (t : State D W) → holds a s → P s t → holds a (with_part E t s)

  pub lifted_leads : (a : A) → IsRound a → (g : Grammar M K Y D W R)
      → ((s : State C V) → Keeps S (P s) g) → Leads L holds called a (lift E g) a
  lifted_leads a is (token ks fault next build) k = λ s x h e f.
      is.put_back s (after_token next build (part E s) x) h (k s (part E s) x (is.part_has s h)
      (sym (kinds ks x.lexeme) ∙ e) f)
  lifted_leads a is (change next build) k =
      λ s h. is.put_back s (after_change next build (part E s)) h (k s (part E s) (is.part_has s h))
  lifted_leads a is (sequence g h) k =
      (a, (lifted_leads a is g (λ s. (k s).0), lifted_leads a is h (λ s. (k s).1)))
  lifted_leads a is (either g h) k = (
    lifted_leads a is g (λ s. (k s).0),
    lifted_leads a is h (λ s. (k s).1),
  )
  lifted_leads a is (many g) k = (lifted_leads a is g k, (λ s h. h))
  lifted_leads a is (rule n) k = is.rules n
