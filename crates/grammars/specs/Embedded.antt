-- A language in another one: its context is a part of the other's context, its value a part of the other's value, and its rules are among the other's.
--   Embedding         the rules' names, and how the parts are taken out and put back
--   lift g            the grammar g in the other language
--   part s            the small language's part of a state; with_part t s: s with the part t
--   IsEmbedded        the parts are parts, and the other language says of these rules and kinds what the small one says
--   answer_in a s     the small language's answer a, with the part put back into the state s
use Rattle.std.specs.Prelude.{◌≡◌, List}
use Rattle.grammars.specs.Kinds.{has}
use Rattle.grammars.specs.Grammar.{State, Grammar, token, change, sequence, either, many, rule, Language}
use Rattle.grammars.specs.Reader.{ReadResult, reads, refused, unended}

pub record Embedding (M N C D V W : Type 0) : Type 0 where
  pub rule_of : M → N
  pub get_context : C → D
  pub put_context : D → C → C
  pub get_value : V → W
  pub put_value : W → V → V

module _ {M N K Y C D V W R : Type 0} (E : Embedding M N C D V W) where
  abbrev pub lift : Grammar M K Y D W R → Grammar N K Y C V R
  lift (token ks fault next build) =
      token ks (λ c y. fault (E.get_context c) y) (λ c y. E.put_context (next (E.get_context c) y)
      c)
      (λ c x v. E.put_value (build (E.get_context c) x (E.get_value v)) v)
  lift (change next build) =
      change (λ c. E.put_context (next (E.get_context c)) c)
      (λ c v. E.put_value (build (E.get_context c) (E.get_value v)) v)
  lift (sequence g h) = sequence (lift g) (lift h)
  lift (either g h) = either (lift g) (lift h)
  lift (many g) = many (lift g)
  lift (rule n) = rule (E.rule_of n)

module _ {M N C D V W : Type 0} (E : Embedding M N C D V W) where
  abbrev pub part : State C V → State D W
  part s = record { context = E.get_context s.context; value = E.get_value s.value }

  abbrev pub with_part : State D W → State C V → State C V
  with_part t s = record {
    context = E.put_context t.context s.context;
    value = E.put_value t.value s.value;
  }

module _ {M N K Y C D V W R : Type 0} (E : Embedding M N C D V W) (S : Language M K Y D W R)
    (L : Language N K Y C V R) where
  pub record IsEmbedded : Type 0 where
    pub get_put : (d : D) (c : C) → E.get_context (E.put_context d c) ≡ d
    pub put_put : (d e : D) (c : C) → E.put_context d (E.put_context e c) ≡ E.put_context d c
    pub put_get : (c : C) → E.put_context (E.get_context c) c ≡ c
    pub value_get_put : (w : W) (v : V) → E.get_value (E.put_value w v) ≡ w
    pub value_put_put : (w x : W) (v : V) → E.put_value w (E.put_value x v) ≡ E.put_value w v
    pub value_put_get : (v : V) → E.put_value (E.get_value v) v ≡ v
    pub kinds : (ks : List K) (y : Y) → has L.same ks (L.kind y) ≡ has S.same ks (S.kind y)
    pub says : (n : M) (c : C) → L.says (E.rule_of n) c ≡ lift E (S.says n (E.get_context c))
    pub begins : (n : M) → L.begins (E.rule_of n) ≡ S.begins n
    pub empty : (n : M) → L.empty (E.rule_of n) ≡ S.empty n

module _ {M N Y C D V W R : Type 0} (E : Embedding M N C D V W) where
  abbrev pub answer_in : ReadResult Y D W R → State C V → ReadResult Y C V R
  answer_in (reads t rest) s = reads (with_part E t s) rest
  answer_in (refused x why) s = refused x why
  answer_in unended s = unended
