-- What the code does to a set with one symbol, the symbols of a list and one production. Assumes nothing.
use mathlib.Core.Path.{◌≡◌, refl, sym, ap, subst, ◌∙◌}
use mathlib.Core.Bool.{Bool, true, false, not, ◌&&◌, true≢false}
use mathlib.Core.List.Memᴰ
use mathlib.Core.List.{List, [], ◌∷◌}
use mathlib.Core.Logic.{⊎_elim}
use Prim.Native.Nat.{ℕ, ◌+◌, ◌*◌, ◌/◌, ◌%◌, ◌^◌, ◌≤◌, ◌<◌, min}
use native.Mathlib.Numerals.{add-one}
use native.Mathlib.Omega.{arith}
use borrow.Author.Tests.{ltb-true, ltb-false}
use lib.Bits.{bit_and, bit_or, and_mask}
use lib.Dec.{eqb, ltb}
use lib.ListN.{length, get_or, set, drop, drop_of_length-le}
use lib.Seq.{drop-cons}
use Rattle.numbers.specs.Number.{le2}
use Rattle.numbers.proofs.Bits.{power_fits}
use Rattle.numbers.specs.Lists.{both, every}
use Rattle.grammar.specs.declared.Production.{Production}
use Rattle.grammar.specs.Grammar.{rights}
use Rattle.grammar.specs.Table.{production_in}
use Rattle.grammar.proofs.Lookups.{rights_many, right_at}
use Rattle.std.specs.List.{list_all}
use Rattle.parts.specs.Sets.{Symbols, has, add, add_all, add_if}
use Rattle.parts.specs.Rule.{takes_part}
use Rattle.parts.proofs.Sets.{In, IsSet, in_low, add_past, add_set, add_here, add_more, all_set, all_here, all_more, if_same}
use Rattle.parts.proofs.Sizes.{size, same_or_more}
use Rattle.parts.proofs.Walks.{step}
use Rattle.parts.proofs.Rule.{all_decides, grows, spreads, only_left}
use Rattle.walks.specs.Walk.{Added}

-- ---- one symbol

pub has_there : (A : Symbols) (s : ℕ) → eqb (bit_and (get_or A (s / 64) 0 / 2 ^ (s % 64)) 1) 1 ≡ has A s
unfolding has
has_there A s = ap (λ x. eqb x 1) (and_mask (get_or A (s / 64) 0 / 2 ^ (s % 64)) 1)

pub add_there : (A : Symbols) (s : ℕ)
    → set A (s / 64) (bit_or (get_or A (s / 64) 0) (1 * 2 ^ (s % 64) % 18446744073709551616)) ≡ add A s
unfolding add
add_there A s = ap (λ x. set A (s / 64) (bit_or (get_or A (s / 64) 0) x)) (power_fits 64 (s % 64) (omega arith))

-- ---- the symbols of a list, from k on

module _ (ss : List ℕ) (k : ℕ) where
  pub all_next : (A : Symbols) → k < length ss → add_all (add A (get_or ss k 0)) (drop (k + 1) ss) ≡ add_all A (drop k ss)
  unfolding add_all
  all_next A h = sym (ap (add_all A) (drop-cons ss k 0 h ∙ ap (λ m. get_or ss k 0 ∷ drop m ss) (sym (add-one k))))

  pub all_done : (A : Symbols) → length ss ≤ k → add_all A (drop k ss) ≡ A
  unfolding add_all
  all_done A h = ap (add_all A) (drop_of_length-le ss h)

-- ---- whether something was added

pub added_nothing : (A : Symbols) → Added A A false
added_nothing A = record { nothing = λ _. refl; something = λ e. absurd (true≢false (sym e)) }

module _ {A B C : Symbols} {more : Bool} (first : Added A B more) where
  pub added_more : Added B C true → Added A C true
  added_more next = record { nothing = λ e. absurd (true≢false e); something = λ _. grew more first }
    where
      grew : (b : Bool) → Added A B b → size A < size C
      grew true added = omega (arith, added.something refl, next.something refl)
      grew false added = omega (arith, ap size (added.nothing refl), next.something refl)

  pub added_same : Added B C false → Added A C more
  added_same next = subst (λ D. Added A D more) (sym (next.nothing refl)) first

-- a symbol that was not there
pub added_one : (A : Symbols) (s : ℕ) → IsSet A → has A s ≡ false → (b : Bool) → b ≡ ltb s 256 → Added A (add A s) b
added_one A s i out b e =
    record {
      nothing = λ f. add_past A s i (ltb-false s 256 (sym e ∙ f));
      something = λ t.
          ⊎_elim
          (λ q. absurd (true≢false (sym (subst (λ B. In B s) q (add_here A s i (ltb-true s 256 (sym e ∙ t)))) ∙ out)))
          (λ l. l)
          (same_or_more A (add A s) i (add_set A s i) (add_more A s i));
    }

-- symbols of a set T, of which one was not there
pub added_some : (T A : Symbols) (ss : List ℕ) → length T ≡ 4 → IsSet A → every (has T) ss ≡ true → every (has A) ss ≡ false
    → Added A (add_all A ss) true
added_some T A ss j i all out =
    record {
      nothing = λ e. absurd (true≢false e);
      something = λ _.
          ⊎_elim
          (λ q.
          absurd
          (true≢false
          (sym
          ((all_decides A ss).passes
          (λ s m. subst (λ B. In B s) q (all_here A ss i s (in_low T s j ((all_decides T ss).so all s m)) m)))
          ∙ out)))
          (λ l. l)
          (same_or_more A (add_all A ss) i (all_set A ss i) (all_more A ss i));
    }

-- ---- the production of a record

module _ (bs : List ℕ) {p : Production} (e : production_in bs 0 ≡ p) where
  pub left_read : le2 bs 0 ≡ p.left
  unfolding production_in
  left_read = ap (λ (q : Production). q.left) e

  pub count_read : min (le2 bs 2) 7 ≡ length (rights p)
  count_read = sym (rights_many bs 0) ∙ ap (λ (q : Production). length (rights q)) e

  pub seven_rights : length (rights p) ≤ 7
  seven_rights = omega (arith, count_read)

  pub right_read : (k : ℕ) → k < length (rights p) → le2 bs (4 + 2 * k) ≡ get_or (rights p) k 0
  right_read k h =
      sym (right_at bs 0 k (subst (λ (q : Production). k < length (rights q)) (sym e) h)) ∙ ap (λ (q : Production). get_or (rights q) k 0) e

-- ---- a test over a list, as the library makes it

module _ {A : Type 0} (f : A → Bool) where
  pub every_is : (xs : List A) → list_all f xs ≡ every f xs
  unfolding every both
  every_is [] = refl
  every_is (x ∷ xs) = go (f x) (every_is xs)
    where
      go : (b : Bool) → list_all f xs ≡ every f xs → b && list_all f xs ≡ both b (every f xs)
      go true e = e
      go false e = refl

-- ---- one production

pub if_yes : {b : Bool} (A : Symbols) (ss : List ℕ) → b ≡ true → add_all A ss ≡ add_if b A ss
unfolding add_if
if_yes A ss e = rw e

pub if_no : {b : Bool} (A : Symbols) (ss : List ℕ) → b ≡ false → A ≡ add_if b A ss
unfolding add_if
if_no A ss e = rw e

pub negated : {b c : Bool} → not b ≡ c → b ≡ not c
negated {b} e = go b e
  where
    go : (b : Bool) {c : Bool} → not b ≡ c → b ≡ not c
    go true e = ap not e
    go false e = ap not e

neither : (a : Bool) {b : Bool} → b ≡ false → both a b ≡ false
unfolding both
neither true e = e
neither false e = refl

module _ (A : Symbols) (p : Production) where
  -- a left symbol that is there already is added to no purpose
  pub grow_there : IsSet A → has A p.left ≡ true → A ≡ step grows only_left A p
  grow_there i h = sym (if_same _ A (p.left ∷ []) i (λ e s m l. rw (Memᴰ.eq_of_singleton m) h))

  pub grow_adds : every (has A) (rights p) ≡ true → add A p.left ≡ step grows only_left A p
  unfolding add_all
  grow_adds e = if_yes A (p.left ∷ []) e

  module _ (T : Symbols) where
    -- so are right symbols that are
    pub spread_there : IsSet A → every (has A) (rights p) ≡ true → A ≡ step (spreads T) rights A p
    spread_there i e = sym (if_same _ A (rights p) i (λ _ s m l. (all_decides A (rights p)).so e s m))

    pub spread_left : has A p.left ≡ false → A ≡ step (spreads T) rights A p
    unfolding both
    spread_left e = if_no A (rights p) (rw e)

    pub spread_no : every (has T) (rights p) ≡ false → A ≡ step (spreads T) rights A p
    spread_no e = if_no A (rights p) (neither (has A p.left) e)

    pub spread_adds : has A p.left ≡ true → every (has T) (rights p) ≡ true → add_all A (rights p) ≡ step (spreads T) rights A p
    unfolding both
    spread_adds l e = if_yes A (rights p) (rw l e)

-- ---- whether one takes part

module _ (T R : Symbols) (p : Production) where
  pub takes_not : has R p.left ≡ false → false ≡ takes_part T R p
  unfolding takes_part both
  takes_not e = rw e

  pub takes_by : has R p.left ≡ true → every (has T) (rights p) ≡ takes_part T R p
  unfolding takes_part both
  takes_by e = rw e
