-- What stands at a number of the grammar that some bytes say, and how many records it has. Assumes nothing.
use mathlib.Core.Path.{◌≡◌, refl, sym, ap, ◌∙◌}
use mathlib.Core.List.{List, [], ◌∷◌}
use Prim.Native.Nat.{ℕ, ◌+◌, ◌*◌, ◌≤◌, ◌<◌, min}
use native.Mathlib.Nat.{add-zero, add_assoc}
use native.Mathlib.Decide.{dec_lt}
use native.Mathlib.Omega.{arith}
use lib.ListN.{length, get_or, take, drop, length-map, length-take, length-replicate}
use lib.Seq.{get_or-take}
use Rattle.numbers.specs.Number.{le2}
use Rattle.numbers.specs.Lists.{up_from}
use Rattle.numbers.proofs.Bytes.{byte_past, le2_past, byte_in_part, le2_in_part}
use Rattle.numbers.proofs.Keeping.{map_same}
use Rattle.numbers.proofs.Ranges.{length_up_from, at_below, at_past}
use Rattle.grammar.specs.Grammar.{symbol, production, rights, no_symbol, no_production}
use Rattle.grammar.specs.Table.{N, P, E, at_symbols, at_productions, at_edges, symbol_in, production_in, edge_in, grammar_of}
use Rattle.grammar.specs.Rules.{edge, no_edge}
use Rattle.grammar.specs.Reading.{header_of}

module _ (bs : List ℕ) where
  pub symbol_there : (s : ℕ) → s < N bs → symbol (grammar_of bs) s ≡ symbol_in bs (at_symbols + 2 * s)
  unfolding grammar_of
  symbol_there s h = at_below _ no_symbol (N bs) s h

  pub symbol_none : (s : ℕ) → N bs ≤ s → symbol (grammar_of bs) s ≡ no_symbol
  unfolding grammar_of
  symbol_none s h = at_past _ no_symbol (N bs) s h

  pub production_there : (p : ℕ) → p < P bs → production (grammar_of bs) p ≡ production_in bs (at_productions bs + 18 * p)
  unfolding grammar_of
  production_there p h = at_below _ no_production (P bs) p h

  pub production_none : (p : ℕ) → P bs ≤ p → production (grammar_of bs) p ≡ no_production
  unfolding grammar_of
  production_none p h = at_past _ no_production (P bs) p h

  pub edge_there : (i : ℕ) → i < E bs → edge (grammar_of bs) i ≡ edge_in bs (at_edges bs + 6 * i)
  unfolding grammar_of
  edge_there i h = at_below _ no_edge (E bs) i h

  pub symbols_many : length (grammar_of bs).symbols ≡ N bs
  unfolding grammar_of
  symbols_many = length-map (up_from 0 (N bs)) _ ∙ length_up_from 0 (N bs)

  pub productions_many : length (grammar_of bs).productions ≡ P bs
  unfolding grammar_of
  productions_many = length-map (up_from 0 (P bs)) _ ∙ length_up_from 0 (P bs)

  pub edges_many : length (grammar_of bs).edges ≡ E bs
  unfolding grammar_of
  edges_many = length-map (up_from 0 (E bs)) _ ∙ length_up_from 0 (E bs)

  pub edge_past : (i : ℕ) → length bs ≤ i → edge_in bs i ≡ no_edge
  unfolding edge_in
  edge_past i h =
      cc (
        le2_past bs i h,
        byte_past bs (i + 2) (omega arith),
        byte_past bs (i + 2 + 1) (omega arith),
        byte_past bs (i + 4) (omega arith),
        byte_past bs (i + 4 + 1) (omega arith),
      )

  -- a production record: seven slots, of which as many as count are the right symbols
  pub slots_many : (i : ℕ) → length (production_in bs i).slots ≡ 7
  unfolding production_in
  slots_many i = length-map (up_from 0 7) _ ∙ length_up_from 0 7

  pub rights_many : (i : ℕ) → length (rights (production_in bs i)) ≡ min (le2 bs (i + 2)) 7
  unfolding production_in
  rights_many i = length-take (le2 bs (i + 2)) _ ∙ ap (min (le2 bs (i + 2))) (slots_many i)

  pub right_at : (i k : ℕ) → k < length (rights (production_in bs i)) → get_or (rights (production_in bs i)) k 0 ≡ le2 bs (i + 4 + 2 * k)
  unfolding production_in
  right_at i k h =
      get_or-take (le2 bs (i + 2)) _ k 0 (omega (arith, rights_many i))
      ∙ at_below (λ k. le2 bs (i + 4 + 2 * k)) 0 7 k (omega (arith, rights_many i))

  -- the seven slots, one by one
  pub slots_are :
      (i : ℕ)
      → (production_in bs i).slots
      ≡ le2 bs (i + 4)
      ∷ le2 bs (i + 6)
      ∷ le2 bs (i + 8)
      ∷ le2 bs (i + 10)
      ∷ le2 bs (i + 12)
      ∷ le2 bs (i + 14)
      ∷ le2 bs (i + 16)
      ∷ []
  unfolding production_in up_from
  slots_are i = simp (add-zero, add_assoc)

-- the front of some bytes has their header
pub header_in_front : (bs : List ℕ) (n : ℕ) → 8 ≤ n → header_of (take n bs) ≡ header_of bs
header_in_front bs n h =
    let symbols = le2_in_part bs n 0 0 0 (omega arith) refl in
    let productions = le2_in_part bs n 0 2 2 (omega arith) refl in
    let edges = le2_in_part bs n 0 4 4 (omega arith) refl in
    let start = le2_in_part bs n 0 6 6 (omega arith) refl in
    λ t. record { symbols = symbols t; productions = productions t; edges = edges t; start = start t }

-- a record of a part is that of the whole at its place
module _ (bs : List ℕ) (n m i j : ℕ) where
  pub production_in_part : i + 17 < n → m + i ≡ j → production_in (take n (drop m bs)) i ≡ production_in bs j
  unfolding production_in
  production_in_part h e =
      let left = le2_in_part bs n m i j (omega arith) e in
      let count = le2_in_part bs n m (i + 2) (j + 2) (omega arith) (omega arith) in
      let slots =
      map_same
      (λ k. le2 (take n (drop m bs)) (i + 4 + 2 * k))
      (λ k. le2 bs (j + 4 + 2 * k))
      0
      7
      (λ k l u. le2_in_part bs n m (i + 4 + 2 * k) (j + 4 + 2 * k) (omega arith) (omega arith)) in
      λ t. record { left = left t; n = count t; slots = slots t }

  pub edge_in_part : i + 5 < n → m + i ≡ j → edge_in (take n (drop m bs)) i ≡ edge_in bs j
  unfolding edge_in
  edge_in_part h e =
      let production = le2_in_part bs n m i j (omega arith) e in
      let a = byte_in_part bs n m (i + 2) (j + 2) (omega arith) (omega arith) in
      let b = byte_in_part bs n m (i + 2 + 1) (j + 2 + 1) (omega arith) (omega arith) in
      let c = byte_in_part bs n m (i + 4) (j + 4) (omega arith) (omega arith) in
      let d = byte_in_part bs n m (i + 4 + 1) (j + 4 + 1) (omega arith) (omega arith) in
      λ t.
      record {
        production = production t;
        source = record { occurrence = a t; attribute = b t };
        target = record { occurrence = c t; attribute = d t };
      }

-- every production has seven slots, also one that is not there
pub slots_seven : (bs : List ℕ) (p : ℕ) → length (production (grammar_of bs) p).slots ≡ 7
slots_seven bs p = go (dec_lt p (P bs))
  where
    go : Dec (p < P bs) → length (production (grammar_of bs) p).slots ≡ 7
    go (yes l) = rw (production_there bs p l, slots_are)
    go (no f) = rw (production_none bs p (omega arith), length-replicate)

-- the fields of a production record, each read by itself
module _ (bs : List ℕ) (i : ℕ) where
  pub left_in : le2 bs i ≡ (production_in bs i).left
  unfolding production_in
  left_in = refl

  pub count_in : le2 bs (i + 2) ≡ (production_in bs i).n
  unfolding production_in
  count_in = refl

  pub slot_in : (k : ℕ) → k < 7 → le2 bs (i + 4 + 2 * k) ≡ get_or (production_in bs i).slots k 0
  unfolding production_in
  slot_in k l = sym (at_below (λ j. le2 bs (i + 4 + 2 * j)) 0 7 k l)

pub slots_by :
    {a b c d e f g a' b' c' d' e' f' g' : ℕ}
    → a ≡ a'
    → b ≡ b'
    → c ≡ c'
    → d ≡ d'
    → e ≡ e'
    → f ≡ f'
    → g ≡ g'
    → ◌≡◌ {A = List ℕ} (a ∷ b ∷ c ∷ d ∷ e ∷ f ∷ g ∷ []) (a' ∷ b' ∷ c' ∷ d' ∷ e' ∷ f' ∷ g' ∷ [])
slots_by p q r s t u v i = p i ∷ q i ∷ r i ∷ s i ∷ t i ∷ u i ∷ v i ∷ []
