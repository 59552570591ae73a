-- The names of variables: those of sequences, and with indices.
--   named_more, made_more  one value more, and one sequence more
--   base                   what stands before the first _ of a name
--   new_plain, new_short, new_other     a sequence's next variable is a name, and another one
use Rattle.std.proofs.Common.{◌≡◌, ◌≢◌, ℕ, zero, suc, ◌+◌, ◌<◌, ◌≤◌, ◌^◌, Bool, true, false, cond, ◌&&◌, ◌==◌, IsTrue, List, [], ◌∷◌, ◌++◌, length, get_or, decimal, codes, bytes_eq, is_none, arith, refl, sym, ap, ap₂, subst, ◌∙◌, Option, Some, None}
use Rattle.std.specs.List.{list_any, list_all}
use Rattle.std.specs.Fmt.{digits}
use Rattle.std.specs.Char.{is_ascii_alphabetic}
use Rattle.std.proofs.lemmas.Fmt.{decimal_injective, length-decimal-le}
use Rattle.std.proofs.lemmas.List.{append_assoc, length-append, append_cancel_left, append-nil}
use Rattle.std.proofs.lemmas.List.Folds.{list_any-append, list_all-append}
use Rattle.algebra.specs.Each.{Each}
use Rattle.algebra.proofs.Each.{each-append}
use Rattle.loops.specs.Limits.{most_names, most_bytes}
use Rattle.loop_model.specs.Words.{is_word, is_word_text, is_plain_word, keyword_of}
use Rattle.loop_model.specs.Names.{place_of}
use Rattle.loop_model.proofs.Places.{place_within, place_stands, bytes_apart}
use Rattle.loops.specs.Turning.{indexed_names}
use Rattle.loop_text.specs.Seqs.{variable_name, most_seqname}
use Rattle.loop_text.specs.Names.{sequence_variables, all_variables, IsSeqName, AreReady}
use Rattle.algebra.proofs.Basics.{or_false, or_true}

indexed_more : (w : List ℕ) (i r : ℕ)
    → indexed_names w i (suc r) ≡ indexed_names w i r ++ (w ++ 95 ∷ decimal (i + r)) ∷ []
unfolding indexed_names
indexed_more w i zero = ap (λ k. (w ++ 95 ∷ decimal k) ∷ []) (omega arith)
indexed_more w i (suc r) =
    ap (λ l. (w ++ 95 ∷ decimal i) ∷ l) (indexed_more w (suc i) r
    ∙ ap (λ k. indexed_names w (suc i) r ++ (w ++ 95 ∷ decimal k) ∷ []) (omega arith))

pub named_more : (w : List ℕ) (n : ℕ) → sequence_variables w (suc n) ≡ sequence_variables w n
    ++ variable_name w n ∷ []
unfolding sequence_variables indexed_names
named_more w zero = refl
named_more w (suc r) =
    ap (λ l. w ∷ l) (indexed_more w 1 r
    ∙ ap (λ k. indexed_names w 1 r ++ (w ++ 95 ∷ decimal k) ∷ []) (omega arith))

pub made_more : (ws : List (List ℕ)) (rs : List ℕ) (w : List ℕ) (r : ℕ)
    → length ws ≡ length rs → all_variables (ws ++ w ∷ []) (rs ++ r ∷ []) ≡ all_variables ws rs
    ++ sequence_variables w r
unfolding all_variables
made_more [] [] w r l = append-nil (sequence_variables w r)
made_more [] (q ∷ rs) w r l = absurd (omega arith)
made_more (v ∷ ws) [] w r l = absurd (omega arith)
made_more (v ∷ ws) (q ∷ rs) w r l =
    ap (λ z. sequence_variables v q ++ z) (made_more ws rs w r (omega arith))
    ∙ sym (append_assoc (sequence_variables v q) (all_variables ws rs) (sequence_variables w r))

-- ---- names of sequences
base : List ℕ → List ℕ
base [] = []
base (c ∷ cs) = cond (c == 95) [] (c ∷ base cs)

base_bare : (w : List ℕ) → list_any (λ c. c == 95) w ≡ false → base w ≡ w
unfolding base
base_bare [] h = refl
base_bare (c ∷ cs) h =
    let k = or_false (c == 95) (list_any (λ c. c == 95) cs) h in
    ap (λ b. cond b [] (c ∷ base cs)) k.0 ∙ ap (λ l. c ∷ l) (base_bare cs k.1)

base_under : (w ds : List ℕ) → list_any (λ c. c == 95) w ≡ false → base (w ++ 95 ∷ ds) ≡ w
unfolding base
base_under [] ds h = refl
base_under (c ∷ cs) ds h =
    let k = or_false (c == 95) (list_any (λ c. c == 95) cs) h in
    ap (λ b. cond b [] (c ∷ base (cs ++ 95 ∷ ds))) k.0 ∙ ap (λ l. c ∷ l) (base_under cs ds k.1)

base_of : (w : List ℕ) (i : ℕ) → IsSeqName w → base (variable_name w i) ≡ w
base_of w zero is = base_bare w is.bare
base_of w (suc i) is = base_under w (decimal (suc i)) is.bare

-- a name tells its index
under_there : (w ds : List ℕ) → list_any (λ c. c == 95) (w ++ 95 ∷ ds) ≡ true
under_there w ds = list_any-append (λ c. c == 95) w (95 ∷ ds) ∙ or_true (list_any (λ c. c == 95) w)

abbrev tail_of : List ℕ → List ℕ
tail_of [] = []
tail_of (z ∷ zs) = zs

same_tail : (x y : ℕ) (xs ys : List ℕ) → ◌≡◌ {A = List ℕ} (x ∷ xs) (y ∷ ys) → xs ≡ ys
same_tail x y xs ys h = ap tail_of h

index_of : (w : List ℕ) (i j : ℕ) → IsSeqName w → i < 2 ^ 63 → j < 2 ^ 63
    → variable_name w i ≡ variable_name w j → i ≡ j
index_of w zero zero is a b h = refl
index_of w zero (suc j) is a b h =
    absurd (let z : true ≡ false = sym (under_there w (decimal (suc j)))
    ∙ ap (list_any (λ c. c == 95)) (sym h) ∙ is.bare in cc)
index_of w (suc i) zero is a b h =
    absurd (let z : true ≡ false = sym (under_there w (decimal (suc i)))
    ∙ ap (list_any (λ c. c == 95)) h ∙ is.bare in cc)
index_of w (suc i) (suc j) is a b h =
    decimal_injective (suc i) (suc j) (omega arith) (omega arith)
    (same_tail 95 95 (decimal (suc i)) (decimal (suc j))
    (append_cancel_left w (95 ∷ decimal (suc i)) (95 ∷ decimal (suc j)) h))

-- ---- what the variables of a sequence are
each_indexed : (P : List ℕ → Type 0) (w : List ℕ) (n : ℕ)
    → ((j : ℕ) → j < n → P (variable_name w j)) → (k r : ℕ) → suc k + r ≤ n
    → Each P (indexed_names w (suc k) r)
unfolding Each indexed_names
each_indexed P w n h k zero l = tt
each_indexed P w n h k (suc r) l =
    (h (suc k) (omega arith), each_indexed P w n h (suc k) r (omega arith))

each_named : (P : List ℕ → Type 0) (w : List ℕ) (n : ℕ) → ((j : ℕ) → j < n → P (variable_name w j))
    → Each P (sequence_variables w n)
unfolding Each sequence_variables
each_named P w zero h = tt
each_named P w (suc r) h = (h 0 (omega arith), each_indexed P w (suc r) h 0 r (omega arith))

each_made : (P : List ℕ → Type 0) (Q : List ℕ → Type 0)
    → ((w : List ℕ) (j : ℕ) → Q w → P (variable_name w j))
    → (ws : List (List ℕ)) (rs : List ℕ) → Each Q ws → Each P (all_variables ws rs)
unfolding Each all_variables
each_made P Q h [] rs q = tt
each_made P Q h (w ∷ ws) [] q = tt
each_made P Q h (w ∷ ws) (r ∷ rs) q =
    each-append P (sequence_variables w r) (all_variables ws rs)
    (each_named P w r (λ j l. h w j q.0)) (each_made P Q h ws rs q.1)

-- what is none of the names has no place among them
each_get : (P : List ℕ → Type 0) (names : List (List ℕ)) (i : ℕ) (d : List ℕ) → i < length names
    → Each P names → P (get_or names i d)
unfolding Each
each_get P [] i d l h = absurd (omega arith)
each_get P (n ∷ names) zero d l h = h.0
each_get P (n ∷ names) (suc i) d l h = each_get P names i d (omega arith) h.1

new_place : (names : List (List ℕ)) (w : List ℕ) → Each (λ v. v ≢ w) names → place_of names w ≡ None
new_place names w h = go (place_of names w) refl
  where
    go : (o : Option ℕ) → place_of names w ≡ o → o ≡ None
    go None e = refl
    go (Some i) e = absurd
        (each_get (λ v. v ≢ w) names i [] (place_within names w i e) h (place_stands names w i e))

-- ---- a word of letters, digits and _
digits_words : (i : ℕ) → i < 12 → list_all is_word (decimal (suc i)) ≡ true
unfolding digits
digits_words zero l = refl
digits_words (suc zero) l = refl
digits_words (suc (suc zero)) l = refl
digits_words (suc (suc (suc zero))) l = refl
digits_words (suc (suc (suc (suc zero)))) l = refl
digits_words (suc (suc (suc (suc (suc zero))))) l = refl
digits_words (suc (suc (suc (suc (suc (suc zero)))))) l = refl
digits_words (suc (suc (suc (suc (suc (suc (suc zero))))))) l = refl
digits_words (suc (suc (suc (suc (suc (suc (suc (suc zero)))))))) l = refl
digits_words (suc (suc (suc (suc (suc (suc (suc (suc (suc zero))))))))) l = refl
digits_words (suc (suc (suc (suc (suc (suc (suc (suc (suc (suc zero)))))))))) l = refl
digits_words (suc (suc (suc (suc (suc (suc (suc (suc (suc (suc (suc zero))))))))))) l = refl
digits_words (suc (suc (suc (suc (suc (suc (suc (suc (suc (suc (suc (suc i)))))))))))) l =
    absurd (omega arith)

and_parts : (a b : Bool) → a && b ≡ true → (a ≡ true) × (b ≡ true)
and_parts true b h = (refl, h)
and_parts false b h = absurd (cc)

and_true : (a b : Bool) → a ≡ true → b ≡ true → a && b ≡ true
and_true a b h k = ap₂ ◌&&◌ h k

word_under : (w ds : List ℕ) → is_word_text w ≡ true → list_all is_word ds ≡ true
    → is_word_text (w ++ 95 ∷ ds) ≡ true
word_under [] ds h k = absurd (cc)
word_under (c ∷ cs) ds h k =
    let p = and_parts (is_ascii_alphabetic c) (list_all is_word cs) h in
    and_true (is_ascii_alphabetic c) (list_all is_word (cs ++ 95 ∷ ds)) p.0
    (list_all-append is_word cs (95 ∷ ds)
    ∙ and_true (list_all is_word cs) (list_all is_word (95 ∷ ds)) p.1 k)

other_word : (w k : List ℕ) → list_any (λ c. c == 95) w ≡ true → list_any (λ c. c == 95) k ≡ false
    → bytes_eq w k ≡ false
other_word w k h g = bytes_apart w k (λ e. let z : true ≡ false = sym h
    ∙ ap (list_any (λ c. c == 95)) e ∙ g in absurd (cc))

no_keyword : (w : List ℕ) → list_any (λ c. c == 95) w ≡ true → keyword_of w ≡ None
unfolding keyword_of
no_keyword w h =
    let a = other_word w (codes "vars") h refl in
    let b = other_word w (codes "init") h refl in
    let c = other_word w (codes "branch") h refl in
    let d = other_word w (codes "when") h refl in
    simp (a, b, c, d)

plain_name : (w : List ℕ) (i : ℕ) → IsSeqName w → i < 13 → is_plain_word (variable_name w i) ≡ true
plain_name w zero is l = is.plain
plain_name w (suc i) is l =
    let p = and_parts (is_word_text w) (is_none (keyword_of w)) is.plain in
    and_true (is_word_text (w ++ 95 ∷ decimal (suc i)))
    (is_none (keyword_of (w ++ 95 ∷ decimal (suc i))))
    (word_under w (decimal (suc i)) p.0 (digits_words i (omega arith)))
    (ap is_none (no_keyword (w ++ 95 ∷ decimal (suc i)) (under_there w (decimal (suc i)))))

short_name : (w : List ℕ) (i : ℕ) → IsSeqName w → i < 13 → length (variable_name w i) ≤ most_bytes
unfolding most_seqname most_bytes
short_name w zero is l = let s = is.short in omega (arith, s)
short_name w (suc i) is l =
    let s = is.short in
    let a = length-append w (95 ∷ decimal (suc i)) in
    let d = length-decimal-le 2 (suc i) (omega arith) (omega arith) (omega arith) in
    omega (arith, s, a, d)

each_both : (P Q : List ℕ → Type 0) (xs : List (List ℕ)) → Each P xs → Each Q xs
    → Each (λ x. P x × Q x) xs
unfolding Each
each_both P Q [] p q = tt
each_both P Q (x ∷ xs) p q = ((p.0, q.0), each_both P Q xs p.1 q.1)

-- ---- one variable more
module _ (ws : List (List ℕ)) (rs : List ℕ) (w : List ℕ) (i : ℕ) (variables : List (List ℕ))
    (ready : AreReady ws rs w i variables) where
  low : i < 13
  unfolding most_names
  low = let a = ready.few in let b = ready.room in omega (arith, a, b)

  pub new_plain : IsTrue (is_plain_word (variable_name w i))
  new_plain = plain_name w i ready.name low

  pub new_short : length (variable_name w i) ≤ most_bytes
  new_short = short_name w i ready.name low

  others : Each (λ v. v ≢ variable_name w i) (all_variables ws rs)
  others = each_made (λ v. v ≢ variable_name w i) (λ v. IsSeqName v × (v ≢ w))
      (λ v j q h. q.1 (sym (base_of v j q.0) ∙ ap base h ∙ base_of w i ready.name)) ws rs
      (each_both IsSeqName (λ v. v ≢ w) ws ready.good ready.apart)

  own : Each (λ v. v ≢ variable_name w i) (sequence_variables w i)
  own = each_named (λ v. v ≢ variable_name w i) w i
      (λ j k h. let l = low in
      let e = index_of w j i ready.name (omega (arith, l, k)) (omega (arith, l)) h in
      omega (arith, k, e))

  pub new_other : place_of variables (variable_name w i) ≡ None
  new_other = new_place variables (variable_name w i)
      (subst (Each (λ v. v ≢ variable_name w i)) (sym ready.made)
      (each-append (λ v. v ≢ variable_name w i) (all_variables ws rs) (sequence_variables w i)
      others own))
