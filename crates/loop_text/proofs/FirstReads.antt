-- The sequences that were read, step by step.
--   declared_so        a name more
--   nothing_made       none was read
--   ready              the next variable of the open sequence is a new name
--   more_open          a value more
--   opened_first       a sequence is open, without a value;  closed_last: it is finished
use Rattle.std.proofs.Common.{◌≡◌, ◌≢◌, ℕ, suc, ◌+◌, ◌<◌, ◌≤◌, Bool, true, false, not, ◌==◌, is_some, bytes_eq, true≢false, List, [], ◌∷◌, ◌++◌, length, map, arith, refl, sym, ap, ap₂, subst, ◌∙◌, Option, Some, None, Ok, Vec, Global}
use Rattle.std.specs.List.{list_any}
use Rattle.std.proofs.lemmas.Bool.{and_parts, or_parts}
use Rattle.std.proofs.lemmas.List.{append_assoc, append-nil, length_push, map-append}
use Rattle.algebra.specs.Each.{Each}
use Rattle.algebra.proofs.Each.{each-append}
use Rattle.loops.specs.Limits.{most_names}
use Rattle.loops.specs.Program.{Expr}
use Rattle.loop_model.specs.Names.{place_of}
use Rattle.loop_model.specs.ExpressionView.{expr_of}
use Rattle.loop_model.proofs.Places.{bytes_eq-refl, no_place}
use Rattle.poly_text.specs.Kinds.{word_in}
use Rattle.poly_text.specs.NextToken.{seen_lexeme}
use Rattle.poly_text.specs.declared.cursor.Cursor.{Cursor}
use Rattle.poly_text.specs.declared.lexemes.Lexeme.TheVariants as code_lexeme
use Rattle.poly_text.proofs.CursorReads.{genuine_name}
use Rattle.loop_model.specs.Parts.{equation_of}
use Rattle.loop_model.specs.declared.statement.Init.{Init}
use Rattle.loops.specs.Turning.{equations}
use Rattle.loop_text.specs.Seqs.{is_sequences, is_seqname, most_seqname, variable_name, last, value}
use Rattle.loop_text.specs.Names.{sequence_variables, all_variables, IsSeqName, AreReady}
use Rattle.loop_text.specs.LoopLayout.{total, IsGiven}
use Rattle.loop_text.proofs.LoopLayout.{total_more}
use Rattle.loop_text.proofs.Named.{named_more, made_more}
use Rattle.loop_text.specs.declared.sequence_firsts.Firsts.{Firsts}
use Rattle.loop_text.specs.Firsts.{values_in, opened, IsDeclared, AreMade, IsOpen}
use Rattle.loop_text.specs.SequenceStates.{in_first, reading}
use Rattle.poly_text.specs.Lexemes.{Placed}
use Rattle.loop_text.proofs.SequenceWordReads.{word_here}

not_true : (b : Bool) → not b ≡ true → b ≡ false
not_true true h = absurd (cc)
not_true false h = refl

nothing_there : (o : Option ℕ) → is_some o ≡ false → o ≡ None
nothing_there None h = refl
nothing_there (Some i) h = absurd (cc)

short_name : (w : List ℕ) → length w ≤ 24 → length w ≤ most_seqname
unfolding most_seqname
short_name w h = h

module _ (k : Cursor) (w : _) (is : k.token.lexeme ≡ code_lexeme.Name w)
    (ws after : List (List ℕ)) where
  pub declared_so : after ≡ ws ++ w.now ∷ [] → is_seqname w.now ≡ true → length w.now ≤ 24
      → is_some (place_of ws w.now) ≡ false
      → IsDeclared (word_in (seen_lexeme k.token.lexeme)) ws after
  declared_so more sequence_variables short new =
      let bare = (and_parts (not (is_sequences w.now))
      (not (list_any (λ c. c == 95) w.now)) sequence_variables).1 in
      subst (λ v. IsDeclared v ws after) (sym (word_here k w is)) (record {
        is = more;
        good = record {
          plain = genuine_name k w is;
          short = short_name w.now short;
          bare = not_true (list_any (λ c. c == 95) w.now) bare;
        };
        other = nothing_there (place_of ws w.now) new;
      })

-- ---- values
abbrev value_of : Init → Expr ℕ
value_of i = expr_of i.value

pub nothing_made : (f : Firsts) → f.sequences ≡ [] → f.variables ≡ [] → f.start.items ≡ []
    → f.orders.items ≡ [] → AreMade f
unfolding Each all_variables total equations
nothing_made f a b c d = record {
  good = subst (Each IsSeqName) (sym a) tt;
  names = b ∙ sym (ap₂ all_variables a d);
  count = ap length d ∙ sym (ap length a);
  values = record {
    some = subst (Each (λ r. 0 < r)) (sym d) tt;
    count = ap total d ∙ sym (ap (λ l. length (map value_of l)) c);
    few = subst (λ l. length (map value_of l) ≤ most_names) (sym c) (omega arith);
    given = subst (λ l. Each IsGiven (map value_of l)) (sym c) tt;
  };
  start = ap (map equation_of) c ∙ sym (ap (λ l. equations 0 (map value_of l)) c);
  long = ap length b ∙ sym (ap (λ l. length (map value_of l)) c);
}

equations_more : (i : ℕ) (vs : List (Expr ℕ)) (v : Expr ℕ)
    → equations i vs ++ record { name = i + length vs; value = v } ∷ [] ≡ equations i (vs ++ v ∷ [])
unfolding equations
equations_more i [] v = ap (λ k. record { name = k; value = v } ∷ []) (omega arith)
equations_more i (u ∷ vs) v = ap (λ l. record { name = i; value = u } ∷ l)
    (ap (λ k. equations (suc i) vs ++ record { name = k; value = v } ∷ []) (omega arith)
    ∙ equations_more (suc i) vs v)

module _ (f : Firsts) (i : ℕ) (w : List ℕ) (open_ : IsOpen f i w)
    (room : length f.variables < most_names) where
  pub ready : AreReady open_.before f.orders.items w i f.variables
  ready = record {
    good = open_.good;
    apart = open_.apart;
    name = open_.name;
    made = open_.names;
    few = let a = open_.total in let b = open_.long in omega (arith, a, b);
    room = room;
  }

  module _ (vs : List (List ℕ)) (st : Vec Init Global) (e : Init)
      (more : vs ≡ f.variables ++ variable_name w i ∷ [])
      (push : st.items ≡ f.start.items ++ e ∷ []) (var : e.var ≡ length f.variables)
      (given : IsGiven (expr_of e.value)) where
    values_more : map value_of st.items ≡ values_in f ++ expr_of e.value ∷ []
    values_more = ap (map value_of) push ∙ map-append value_of f.start.items (e ∷ [])

    count_more : length (map value_of st.items) ≡ suc (length (values_in f))
    count_more = ap length values_more ∙ length_push (values_in f) (expr_of e.value) ∙ omega arith

    here : e.var ≡ 0 + length (values_in f)
    here = let a = open_.long in omega (arith, var, a)

    pub more_open : IsOpen (record {
      sequences = f.sequences;
      variables = vs;
      start = st;
      orders = f.orders;
    }) (suc i) w
    unfolding Each
    more_open = record {
      before = open_.before;
      is = open_.is;
      good = open_.good;
      name = open_.name;
      apart = open_.apart;
      names = more ∙ ap (λ l. l ++ variable_name w i ∷ []) open_.names
          ∙ append_assoc (all_variables open_.before f.orders.items) (sequence_variables w i)
          (variable_name w i ∷ [])
          ∙ ap (λ l. all_variables open_.before f.orders.items ++ l) (sym (named_more w i));
      count = open_.count;
      some = open_.some;
      total = let a = open_.total in omega (arith, a, count_more);
      few = let a = open_.long in omega (arith, a, count_more, room);
      given = subst (Each IsGiven) (sym values_more)
          (each-append IsGiven (values_in f) (expr_of e.value ∷ []) open_.given (given, tt));
      start = ap (map equation_of) push ∙ map-append equation_of f.start.items (e ∷ [])
          ∙ ap₂ (λ l n. l ++ record { name = n; value = expr_of e.value } ∷ []) open_.start
          here
          ∙ equations_more 0 (values_in f) (expr_of e.value)
          ∙ ap (equations 0) (sym values_more);
      long = let a = ap length more ∙ length_push f.variables (variable_name w i) in
          let b = open_.long in omega (arith, a, b, count_more);
    }

-- ---- a sequence more
apart_from : (ws : List (List ℕ)) (w : List ℕ) → list_any (λ n. bytes_eq n w) ws ≡ false
    → Each (λ v. v ≢ w) ws
unfolding Each
apart_from [] w h = tt
apart_from (v ∷ ws) w h =
    let p = or_parts (bytes_eq v w) (list_any (λ n. bytes_eq n w) ws) h in (
      (λ e. true≢false (sym (ap (λ z. bytes_eq z w) e ∙ bytes_eq-refl w) ∙ p.0)),
      apart_from ws w p.1,
    )

each_apart : (ws : List (List ℕ)) (w : List ℕ) → place_of ws w ≡ None → Each (λ v. v ≢ w) ws
each_apart ws w h = apart_from ws w (no_place ws w h)

module _ (f : Firsts) (m : AreMade f) (w : List ℕ) (ws : List (List ℕ))
    (d : IsDeclared w f.sequences ws) where
  pub opened_first : IsOpen (record {
    sequences = ws;
    variables = f.variables;
    start = f.start;
    orders = f.orders;
  }) 0 w
  unfolding sequence_variables
  opened_first = record {
    before = f.sequences;
    is = d.is;
    good = m.good;
    name = d.good;
    apart = each_apart f.sequences w d.other;
    names = m.names ∙ sym (append-nil (all_variables f.sequences f.orders.items));
    count = m.count;
    some = m.values.some;
    total = let a = m.values.count in omega (arith, a);
    few = m.values.few;
    given = m.values.given;
    start = m.start;
    long = m.long;
  }

pub few_orders : (rs : List ℕ) → Each (λ r. 0 < r) rs → length rs ≤ total rs
unfolding Each total
few_orders [] h = omega arith
few_orders (r ∷ rs) h = let a = few_orders rs h.1 in let b = h.0 in omega (arith, a, b)

pub few_sequences : (f : Firsts) → AreMade f → length f.sequences ≤ most_names
few_sequences f m =
    let a = few_orders f.orders.items m.values.some in
    let b = m.count in let c = m.values.count in let d = m.values.few in
    omega (arith, a, b, c, d)

module _ (f : Firsts) (i : ℕ) (w : List ℕ) (open_ : IsOpen f i w) (some : 0 < i)
    (os : Vec ℕ Global) (push : os.items ≡ f.orders.items ++ i ∷ []) where
  pub closed_last : AreMade (record {
    sequences = f.sequences;
    variables = f.variables;
    start = f.start;
    orders = os;
  })
  unfolding Each
  closed_last = record {
    good = subst (Each IsSeqName) (sym open_.is)
        (each-append IsSeqName open_.before (w ∷ []) open_.good (open_.name, tt));
    names = open_.names ∙ sym (made_more open_.before f.orders.items w i (sym open_.count))
        ∙ sym (ap₂ all_variables open_.is push);
    count = ap length push ∙ length_push f.orders.items i
        ∙ ap (λ n. n + 1) open_.count ∙ sym (length_push open_.before w)
        ∙ sym (ap length open_.is);
    values = record {
      some = subst (Each (λ r. 0 < r)) (sym push)
          (each-append (λ r. 0 < r) f.orders.items (i ∷ []) open_.some (some, tt));
      count = ap total push ∙ total_more f.orders.items i ∙ open_.total;
      few = open_.few;
      given = open_.given;
    };
    start = open_.start;
    long = open_.long;
  }

last_push : (ws : List (List ℕ)) (w : List ℕ) → last (ws ++ w ∷ []) ≡ w
last_push [] w = refl
last_push (v ∷ []) w = refl
last_push (v ∷ u ∷ ws) w = last_push (u ∷ ws) w

-- a value that was read, and is added
module _ (f g : Firsts) (i : ℕ) (w : List ℕ) (open_ : IsOpen f i w) (e : Expr ℕ)
    (ts us : List Placed) where
  pub value_on : Ok (
    in_first f.sequences (f.variables ++ variable_name (last f.sequences) i ∷ [])
        f.orders.items (values_in f ++ e ∷ []) (suc i),
    us,
  ) ≡ reading value (opened f i) ts
      → opened g (suc i) ≡ in_first f.sequences (f.variables ++ variable_name w i ∷ [])
      f.orders.items (values_in f ++ e ∷ []) (suc i)
      → Ok (opened g (i + 1), us) ≡ reading value (opened f i) ts
  value_on read state =
      let one : i + 1 ≡ suc i = omega arith in
      ap (λ k. Ok (opened g k, us)) one ∙ ap (λ s. Ok (s, us)) state
      ∙ ap (λ v. Ok (
        in_first f.sequences (f.variables ++ variable_name v i ∷ [])
            f.orders.items (values_in f ++ e ∷ []) (suc i),
        us,
      ))
      (sym (ap last open_.is ∙ last_push open_.before w))
      ∙ read

pub one_later : (f : Firsts) (i : ℕ) (w : List ℕ) → IsOpen f (suc i) w → IsOpen f (i + 1) w
one_later f i w h = let one : suc i ≡ i + 1 = omega arith in subst (λ k. IsOpen f k w) one h
