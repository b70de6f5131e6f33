-- The parent axis, rows downwards. `waits` has, for each level, whether a marked row of that level waits for its
-- parent.
--     Waiting n level ms i l x     row x, marked, from i on, of level l, with no row from i up to it above its level
--     Waits n level ms i waits     what `waits` says of the waiting rows
--       bound                      each of them has its level's flag set
--       held                       a flag that is set stands for one of them
--     waits_begin                  past the last row
--     waits_more                   at the row before
--     waits_flag                   v is the parent of a marked row exactly when the flag of the level below it is set
use Prim.Native.Nat.{ℕ, zero, suc, ◌+◌, ◌≤◌, ◌<◌}
use mathlib.Core.Path.{◌≡◌, refl, sym, ap, ◌∙◌}
use mathlib.Core.Logic.{◌⊎◌, inl, inr}
use mathlib.Core.List.{List}
use mathlib.Core.Bool.{Bool, true, false, ◌||◌}
use native.Mathlib.Decide.{ℕ_discrete}
use native.Mathlib.Omega.{arith}
use lib.ListN.{length, get_or, set, replicate, length-set}
use lib.Seq.{get_or-set_same, get_or-set_other}
use Rattle.codes.specs.declared.Axis.TheVariants.{Parent}
use Rattle.laws.specs.Lists.{any}
use Rattle.laws.proofs.Booleans.{clash}
use Rattle.meaning.specs.Catalogue.{Catalogue}
use Rattle.meaning.specs.World.{axis_holds, on_axis}
use Rattle.doc_rows.specs.Nested.{Nested}
use Rattle.doc_rows.proofs.Fragments.{fragment_covered}
use Rattle.nodesets.specs.Nodes.{ranks}
use Rattle.nodesets.proofs.Tests.{or_cases, or_left, or_right, le_or_lt}
use Rattle.nodesets.proofs.Ranks.{any_is}
use Rattle.step_parts.proofs.Conditions.{on_axis_lem, axis_of_lem, child, child_of}

-- a marked row from i on, of level l, with no row from i up to it above its level
pub record Waiting (n : ℕ) (level : ℕ → ℕ) (ms : List Bool) (i l x : ℕ) : Type 0 where
  pub from : i ≤ x
  pub there : x < n
  pub marked : get_or ms x false ≡ true
  pub on : level x ≡ l
  pub open_yet : (u : ℕ) → i ≤ u → u < x → l ≤ level u

pub record Waits (n : ℕ) (level : ℕ → ℕ) (ms : List Bool) (i : ℕ) (waits : List Bool) : Type 0 where
  pub long : length waits ≡ 65
  pub bound : (l x : ℕ) → Waiting n level ms i l x → get_or waits l false ≡ true
  pub held : (l : ℕ) → get_or waits l false ≡ true → (x : ℕ) × Waiting n level ms i l x

no_flag : (k l : ℕ) → get_or (replicate k false) l false ≡ false
no_flag zero l = refl
no_flag (suc k) zero = refl
no_flag (suc k) (suc l) = no_flag k l

module _ (c : Catalogue) (n : ℕ) (s : Nested n c.size c.level) (ms : List Bool) where
  pub waits_begin : Waits n c.level ms n (replicate 65 false)
  waits_begin =
      record {
        long = refl;
        bound = λ l x w. absurd (omega (arith, w.from, w.there));
        held = λ l t. clash t (no_flag 65 l);
      }

  module _ (i v : ℕ) (e : i ≡ v + 1) (h : v < n) (waits : List Bool) (o : Waits n c.level ms i waits) where
    -- the flags past row v: the level below it waits no more, its own level waits also where v is marked
    past : List Bool
    past = set (set waits (c.level v + 1) false) (c.level v) (get_or waits (c.level v) false || get_or ms v false)

    room : c.level v + 1 < length waits
    room = omega (arith, s.shallow v h, o.long)

    past_own : get_or past (c.level v) false ≡ (get_or waits (c.level v) false || get_or ms v false)
    unfolding past
    past_own =
        get_or-set_same (set waits (c.level v + 1) false) (c.level v)
        (get_or waits (c.level v) false || get_or ms v false) false
        (omega (arith, room, length-set waits (c.level v + 1) false))

    past_below : get_or past (c.level v + 1) false ≡ false
    unfolding past
    past_below =
        get_or-set_other (set waits (c.level v + 1) false) (c.level v) (c.level v + 1)
        (get_or waits (c.level v) false || get_or ms v false) false (omega arith)
        ∙ get_or-set_same waits (c.level v + 1) false false room

    past_other : (l : ℕ) → ¬ (l ≡ c.level v) → ¬ (l ≡ c.level v + 1) → get_or past l false ≡ get_or waits l false
    unfolding past
    past_other l a b =
        get_or-set_other (set waits (c.level v + 1) false) (c.level v) l
        (get_or waits (c.level v) false || get_or ms v false) false a
        ∙ get_or-set_other waits (c.level v + 1) l false false b

    -- no row two levels below v waits: levels rise by one at most
    near : (l x : ℕ) → Waiting n c.level ms i l x → l ≤ c.level v + 1
    near l x w = by_place (ℕ_discrete x i)
      where
        rise : c.level i ≤ c.level v + 1
        rise = rw e (s.rises v (omega (arith, w.from, w.there)))

        by_place : Dec (x ≡ i) → l ≤ c.level v + 1
        by_place (yes d) = omega (arith, rise, w.on, ap c.level d)
        by_place (no d) = omega (arith, rise, w.open_yet i (omega arith) (omega (arith, w.from)))

    -- what waits below v waits at v where it is not below v's level
    waits_on : (l x : ℕ) → l ≤ c.level v → Waiting n c.level ms i l x → Waiting n c.level ms v l x
    waits_on l x k w =
        record {
          from = omega (arith, w.from);
          there = w.there;
          marked = w.marked;
          on = w.on;
          open_yet = λ u a b. by_place u a b (ℕ_discrete u v);
        }
      where
        by_place : (u : ℕ) → v ≤ u → u < x → Dec (u ≡ v) → l ≤ c.level u
        by_place u a b (yes d) = rw d k
        by_place u a b (no d) = w.open_yet u (omega arith) b

    bound_past : (l x : ℕ) → Waiting n c.level ms v l x → get_or past l false ≡ true
    bound_past l x w = by_place (ℕ_discrete x v) (ℕ_discrete l (c.level v))
      where
        before : ¬ (x ≡ v) → get_or waits l false ≡ true
        before d =
            o.bound l x
            (record {
              from = omega (arith, w.from);
              there = w.there;
              marked = w.marked;
              on = w.on;
              open_yet = λ u a b. w.open_yet u (omega arith) b;
            })

        by_place : Dec (x ≡ v) → Dec (l ≡ c.level v) → get_or past l false ≡ true
        by_place (yes d) k =
            ap (λ y. get_or past y false) (sym w.on ∙ ap c.level d)
            ∙ past_own
            ∙ or_right (get_or waits (c.level v) false) (ap (λ y. get_or ms y false) (sym d) ∙ w.marked)
        by_place (no d) (yes k) =
            ap (λ y. get_or past y false) k
            ∙ past_own
            ∙ or_left (get_or ms v false) (ap (λ y. get_or waits y false) (sym k) ∙ before d)
        by_place (no d) (no k) =
            let low = w.open_yet v (omega arith) (omega (arith, w.from)) in
            past_other l k (omega arith) ∙ before d

    held_past : (l : ℕ) → get_or past l false ≡ true → (x : ℕ) × Waiting n c.level ms v l x
    held_past l t = by_level (ℕ_discrete l (c.level v)) (ℕ_discrete l (c.level v + 1))
      where
        here : l ≡ c.level v → get_or ms v false ≡ true → (x : ℕ) × Waiting n c.level ms v l x
        here k m = (
          v,
          record { from = omega arith; there = h; marked = m; on = sym k; open_yet = λ u a b. absurd (omega arith) },
        )

        before : get_or waits l false ≡ true → ¬ (l ≡ c.level v + 1) → (x : ℕ) × Waiting n c.level ms v l x
        before u k =
            let w = o.held l u in
            (w.0, waits_on l w.0 (omega (arith, near l w.0 w.1)) w.1)

        own : l ≡ c.level v → (get_or waits (c.level v) false ≡ true) ⊎ (get_or ms v false ≡ true)
            → (x : ℕ) × Waiting n c.level ms v l x
        own k (inl u) = before (ap (λ y. get_or waits y false) k ∙ u) (omega arith)
        own k (inr m) = here k m

        by_level : Dec (l ≡ c.level v) → Dec (l ≡ c.level v + 1) → (x : ℕ) × Waiting n c.level ms v l x
        by_level (yes k) d =
            own k (or_cases (get_or waits (c.level v) false) (get_or ms v false)
            (sym past_own ∙ ap (λ y. get_or past y false) (sym k) ∙ t))
        by_level (no k) (yes d) = clash t (ap (λ y. get_or past y false) d ∙ past_below)
        by_level (no k) (no d) = before (sym (past_other l k d) ∙ t) d

    pub waits_more :
        Waits n c.level ms v
        (set (set waits (c.level v + 1) false) (c.level v) (get_or waits (c.level v) false || get_or ms v false))
    unfolding past
    waits_more =
        record {
          long =
              length-set (set waits (c.level v + 1) false) (c.level v)
              (get_or waits (c.level v) false || get_or ms v false)
              ∙ length-set waits (c.level v + 1) false
              ∙ o.long;
          bound = bound_past;
          held = held_past;
        }

    -- a row that waits one level below v is covered by v's size
    waits_covered : (x : ℕ) → Waiting n c.level ms i (c.level v + 1) x → x ≤ v + c.size v
    waits_covered x w = by_end (le_or_lt x (v + c.size v))
      where
        by_last : v + c.size v < x → Dec (x ≡ v + c.size v + 1) → ⊥
        by_last a (yes d) = omega (arith, s.ends v h (omega (arith, w.there)), w.on, ap c.level d)
        by_last a (no d) =
            omega
            (arith, s.ends v h (omega (arith, w.there)), w.open_yet (v + c.size v + 1) (omega arith) (omega arith))

        by_end : (x ≤ v + c.size v) ⊎ (v + c.size v < x) → x ≤ v + c.size v
        by_end (inl a) = a
        by_end (inr a) = absurd (by_last a (ℕ_discrete x (v + c.size v + 1)))

    pub waits_flag : get_or waits (c.level v + 1) false ≡ any (λ x. on_axis c Parent x v) (ranks n ms)
    unfolding axis_holds
    waits_flag = any_is (λ x. on_axis c Parent x v) ms n (get_or waits (c.level v + 1) false) to_hit from_hit
      where
        to_hit :
            get_or waits (c.level v + 1) false ≡ true
            → (x : ℕ) × (x < n) × (get_or ms x false ≡ true) × (on_axis c Parent x v ≡ true)
        to_hit t =
            let p = o.held (c.level v + 1) t in
            let x = p.0 in
            let w = p.1 in
            let v<x : v < x = omega (arith, w.from) in
            let k = waits_covered x w in (
              x,
              w.there,
              w.marked,
              on_axis_lem c Parent x v (sym (fragment_covered c n s v x h v<x k)) (child c v x v<x k w.on),
            )

        from_hit :
            (x : ℕ) → x < n → get_or ms x false ≡ true → on_axis c Parent x v ≡ true
            → get_or waits (c.level v + 1) false ≡ true
        from_hit x j m a =
            let d = child_of c v x (axis_of_lem c Parent x v a) in
            o.bound (c.level v + 1) x
            (record {
              from = omega (arith, d.0);
              there = j;
              marked = m;
              on = d.2;
              open_yet = λ u k l. omega (arith, s.inside v u h (omega arith) (omega (arith, d.1)));
            })
