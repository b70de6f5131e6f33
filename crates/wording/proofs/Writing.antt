-- What each step of the writer asks and leaves.
--     deep, unsound            there is a tree, so the depth left is not 0, and there is a record
--     grouped_is               whether a record's text is grouped, by its level
--     headed                   the record's fields are in their ranges
--     open_room .. close_room, operands_asked     room for each piece of an expression's text
--     expression_makes         the pieces, one after another, are the expression's text
--     none_makes, one_asked .. three_makes        the operands of a record, by how many there are
--     first_asked .. two_made, choice_asked .. choice_made      two operands, and three, one after another
use Rattle.std.specs.Prelude.{Option, Some, None}
use Prim.Native.Nat.{ℕ, ◌+◌, ◌-◌, ◌^◌, ◌<◌}
use mathlib.Core.Path.{◌≡◌, sym, ap, ◌∙◌, subst}
use mathlib.Core.Bool.{Bool}
use mathlib.Core.List.{List, [], ◌++◌}
use native.Mathlib.Omega.{arith}
use lib.ListN.{length, length-append}
use Rattle.cells.specs.Bytes.{word}
use Rattle.laws.specs.Attempt.{gives}
use Rattle.laws.proofs.Outcomes.{fails_gives}
use Rattle.meaning.specs.Query.{Query, record_of as recordIn}
use Rattle.pen.specs.Penned.{Pens}
use Rattle.pen.proofs.Putting.{pens_none, pens_more, pens_as}
use Rattle.grammar.specs.Words.{else_word}
use Rattle.grammar.specs.Grammar.{Level, expr, single}
use Rattle.grammar.specs.Written.{looser, opening, closing, enclosed, spaced, then_text, text_of}
use Rattle.query_records.specs.declared.Decoded.{Decoded}
use Rattle.query_records.specs.declared.Record.{Record}
use Rattle.query_records.specs.declared.Operands.{Operands}
use Rattle.query_records.specs.Decoded.{Means, record_of, operands_of}
use Rattle.query_records.proofs.Callers.{found_sound, found_small}
use Rattle.query_walks.specs.Parse.{Parsed, trees, parse}
use Rattle.query_walks.proofs.Callers.{unfound_parses, found_parses, shallow_parses}
use Rattle.levels.specs.declared.Level.{Level as Code}
use Rattle.levels.specs.Levels.{level_of, own_of, first_of, second_of}
use Rattle.phrases.specs.Phrases.{head_of, between_of, tail_of, Headed}
use Rattle.wording.specs.declared.Spot.{Spot}
use Rattle.wording.specs.Wording.{inner, pair_text, choice_text, Asked, AskedOperands, AskedTwo, AskedThree}
use Rattle.wording.specs.Wording.{Makes, MakesOperands, MakesTwo, MakesThree, Lays}
use Rattle.wording.proofs.Laying.{trees_whole, trees_lays}

-- whether a record's text is grouped, by its level
pub grouped_is :
    (o : Code) (k : Record) (l : Level) {g : Bool} → level_of o ≡ own_of k → g ≡ looser (level_of o) l →
    g ≡ looser (own_of k) l
grouped_is o k l e h = h ∙ ap (λ (x : Level). looser x l) e

-- The pieces of an expression's text

-- how long they are together
enclosed_length :
    (b : Bool) (h i t : List ℕ) →
    length (enclosed b (h ++ (i ++ t)))
    ≡ length (opening b) + (length h + (length i + length t)) + length (closing b)
unfolding enclosed
enclosed_length b h i t =
    omega (
      arith,
      length-append (opening b) ((h ++ (i ++ t)) ++ closing b),
      length-append (h ++ (i ++ t)) (closing b),
      length-append h (i ++ t),
      length-append i t,
    )

module _ (bs : List ℕ) (at d : ℕ) (l : Level) (end : ℕ) (h : Asked (parse d bs at) (text_of l) end) where
  pub deep : d ≡ 0 → ⊥
  deep z = fails_gives h.found (sym (shallow_parses bs at d z) ∙ h.given)

  pub open_room : end + 1 < 2 ^ 64
  open_room = omega (arith, h.room)

  module _ (r : Option Decoded) (m : Means r (recordIn bs at (word bs at 2))) where
    pub unsound : r ≡ None → ⊥
    unsound u = fails_gives h.found (sym (unfound_parses bs at r m u d) ∙ h.given)

    module _ (f : Decoded) (s : r ≡ Some f) (g : Bool) (e : g ≡ looser (own_of f.kind) l) where
      abbrev own : List ℕ → List ℕ
      own i = head_of (record_of f.kind) ++ (i ++ tail_of (record_of f.kind))

      parses :
          (z : Query × ℕ) → parse d bs at ≡ gives z →
          trees (parse (d - 1) bs) at f.next (record_of f.kind) ≡ gives z
      parses z p = sym (found_parses bs at r m f s d deep) ∙ p

      pieces : (z : Query × ℕ) → parse d bs at ≡ gives z → text_of l z.0 ≡ enclosed g (own (inner z.0))
      pieces z p =
          trees_whole l f.kind (parse (d - 1) bs) at f.next z (parses z p)
          ∙ ap (λ (b : Bool). enclosed b (own (inner z.0))) (sym e)

      long :
          length (text_of l h.found.0)
          ≡ length (opening g)
          + (length (head_of (record_of f.kind))
          + (length (inner h.found.0) + length (tail_of (record_of f.kind))))
          + length (closing g)
      long =
          ap length (pieces h.found h.given)
          ∙ enclosed_length g (head_of (record_of f.kind)) (inner h.found.0) (tail_of (record_of f.kind))

      pub headed : Headed f.kind
      headed = record { ranged = (found_sound bs at r m f s).ranged; small = found_small bs at r m f s }

      module _ {x y : List ℕ} {p : ℕ} (o : Pens end (opening g) x y p) where
        pub head_room : p + 64 < 2 ^ 64
        head_room = omega (arith, h.room, long, o.ends)

        module _ {z : List ℕ} {q : ℕ} (hd : Pens p (head_of (record_of f.kind)) y z q) where
          pub operands_asked : AskedOperands (parse (d - 1) bs) f.next f.kind q
          operands_asked =
              record {
                place = at;
                asked =
                    record {
                      found = h.found;
                      given = parses h.found h.given;
                      room = omega (arith, h.room, long, o.ends, hd.ends);
                    };
              }

          module _
              {u : List ℕ} {t : Spot}
              (i : MakesOperands (parse (d - 1) bs) f.next f.kind z q u t) where
            ends : t.end ≡ q + length (inner h.found.0)
            ends = ((i.made at).wrote h.found (parses h.found h.given)).ends

            pub tail_room : t.end + 64 < 2 ^ 64
            tail_room = omega (arith, h.room, long, o.ends, hd.ends, ends)

            module _ {v : List ℕ} {n : ℕ} (ta : Pens t.end (tail_of (record_of f.kind)) u v n) where
              pub close_room : n + 1 < 2 ^ 64
              close_room = omega (arith, h.room, long, o.ends, hd.ends, ends, ta.ends)

              pub expression_makes :
                  {w : List ℕ} {k : ℕ} → Pens n (closing g) v w k →
                  Makes (parse d bs at) (text_of l) x end w (record { next = t.next; end = k })
              unfolding enclosed
              expression_makes c =
                  record {
                    wrote = λ z' p'.
                        pens_as (sym (pieces z' p'))
                        (pens_more o
                        (pens_more (pens_more hd (pens_more ((i.made at).wrote z' (parses z' p')) ta)) c));
                    after = λ z' p'. (i.made at).after z' (parses z' p');
                  }

-- The operands of a record

module _
    (rd : ℕ → Parsed) (at : ℕ) (k : Record) (o p : Operands)
    (e : o ≡ operands_of (record_of k)) (d : o ≡ p) where
  lays : (place : ℕ) (z : Query × ℕ) → trees rd place at (record_of k) ≡ gives z → Lays rd at p k z
  lays place z t =
      subst (λ (o : Operands). Lays rd at o k z) (sym e ∙ d) (trees_lays k rd place at z t)

module _ (rd : ℕ → Parsed) (at : ℕ) (k : Record) (o : Operands) (e : o ≡ operands_of (record_of k)) where
  -- no operand
  nothing_makes :
      (p : Operands) (x : List ℕ) (end : ℕ) → o ≡ p →
      ((z : Query × ℕ) → Lays rd at p k z → (at ≡ z.1) × (inner z.0 ≡ [])) →
      MakesOperands rd at k x end x (record { next = at; end = end })
  nothing_makes p x end d g =
      record {
        made = λ place. record {
          wrote = λ z t. pens_as (sym (g z (lays rd at k o p e d place z t)).1) (pens_none x end);
          after = λ z t. (g z (lays rd at k o p e d place z t)).0;
        };
      }

  pub none_makes :
      (x : List ℕ) (end : ℕ) → o ≡ Operands.None → MakesOperands rd at k x end x (record { next = at; end = end })
  unfolding Lays
  none_makes x end d = nothing_makes Operands.None x end d (λ z t. t)

  pub variable_makes :
      (v : ℕ) (x : List ℕ) (end : ℕ) → o ≡ Operands.Variable v →
      MakesOperands rd at k x end x (record { next = at; end = end })
  unfolding Lays
  variable_makes v x end d = nothing_makes (Operands.Variable v) x end d (λ z t. t)

  -- one operand, at the level that is its own
  module _ (d : o ≡ Operands.One) (l : Level) (s : l ≡ first_of k) where
    pub one_asked : (end : ℕ) → AskedOperands rd at k end → Asked (rd at) (text_of l) end
    unfolding Lays
    one_asked end h =
        let z = h.asked.found in
        let (a, p, n, t) = lays rd at k o Operands.One e d h.place z h.asked.given in
        let f : inner z.0 ≡ text_of l a.0 = t ∙ ap (λ (l : Level). text_of l a.0) (sym s) in
        record { found = a; given = p; room = omega (arith, h.asked.room, ap length f) }

    pub one_makes :
        {x y : List ℕ} {end : ℕ} {r : Spot} → Makes (rd at) (text_of l) x end y r → MakesOperands rd at k x end y r
    unfolding Lays
    one_makes m =
        record {
          made = λ place. record {
            wrote = λ z t.
                let (a, p, n, f) = lays rd at k o Operands.One e d place z t in
                pens_as (ap (λ (l : Level). text_of l a.0) s ∙ sym f) (m.wrote a p);
            after = λ z t.
                let (a, p, n, f) = lays rd at k o Operands.One e d place z t in
                m.after a p ∙ n;
          };
        }

  -- two operands
  abbrev Twofold : Operands → Type 0
  Twofold p =
      (z : Query × ℕ) → Lays rd at p k z →
      (a : Query × ℕ) × (b : Query × ℕ) ×
      (rd at ≡ gives a) × (rd a.1 ≡ gives b) × (b.1 ≡ z.1) × (inner z.0 ≡ pair_text k a.0 b.0)

  module _ (p : Operands) (d : o ≡ p) (g : Twofold p) where
    both_asked : (end : ℕ) → AskedOperands rd at k end → AskedTwo rd at k end
    both_asked end h =
        let z = h.asked.found in
        let (a, b, u, v, n, t) = g z (lays rd at k o p e d h.place z h.asked.given) in
        record {
          a = a;
          b = b;
          first = u;
          second = v;
          room = omega (arith, h.asked.room, ap length t);
        }

    both_makes :
        {x y : List ℕ} {end : ℕ} {r : Spot} → MakesTwo rd at k x end y r → MakesOperands rd at k x end y r
    both_makes m =
        record {
          made = λ place. record {
            wrote = λ z t.
                let (a, b, u, v, n, f) = g z (lays rd at k o p e d place z t) in
                pens_as (sym f) (m.wrote a b u v);
            after = λ z t.
                let (a, b, u, v, n, f) = g z (lays rd at k o p e d place z t) in
                m.after a b u v ∙ n;
          };
        }

  module _ (d : o ≡ Operands.Two) where
    pub two_asked : (end : ℕ) → AskedOperands rd at k end → AskedTwo rd at k end
    unfolding Lays
    two_asked end h = both_asked Operands.Two d (λ z t. t) end h

    pub two_makes :
        {x y : List ℕ} {end : ℕ} {r : Spot} → MakesTwo rd at k x end y r → MakesOperands rd at k x end y r
    unfolding Lays
    two_makes m = both_makes Operands.Two d (λ z t. t) m

  module _ (v : ℕ) (d : o ≡ Operands.Binding v) where
    pub binding_asked : (end : ℕ) → AskedOperands rd at k end → AskedTwo rd at k end
    unfolding Lays
    binding_asked end h = both_asked (Operands.Binding v) d (λ z t. t) end h

    pub binding_makes :
        {x y : List ℕ} {end : ℕ} {r : Spot} → MakesTwo rd at k x end y r → MakesOperands rd at k x end y r
    unfolding Lays
    binding_makes m = both_makes (Operands.Binding v) d (λ z t. t) m

  -- three operands
  module _ (d : o ≡ Operands.Three) where
    pub three_asked : (end : ℕ) → AskedOperands rd at k end → AskedThree rd at end
    unfolding Lays
    three_asked end h =
        let z = h.asked.found in
        let (c, a, b, u, v, w, n, t) = lays rd at k o Operands.Three e d h.place z h.asked.given in
        record {
          c = c;
          a = a;
          b = b;
          first = u;
          second = v;
          third = w;
          room = omega (arith, h.asked.room, ap length t);
        }

    pub three_makes :
        {x y : List ℕ} {end : ℕ} {r : Spot} → MakesThree rd at x end y r → MakesOperands rd at k x end y r
    unfolding Lays
    three_makes m =
        record {
          made = λ place. record {
            wrote = λ z t.
                let (c, a, b, u, v, w, n, f) = lays rd at k o Operands.Three e d place z t in
                pens_as (sym f) (m.wrote c a b u v w);
            after = λ z t.
                let (c, a, b, u, v, w, n, f) = lays rd at k o Operands.Three e d place z t in
                m.after c a b u v w ∙ n;
          };
        }

-- Two operands, one after the other

-- what is read where the first operand ends
onward : (rd : ℕ → Parsed) (n m : ℕ) (z : Query × ℕ) → n ≡ m → rd m ≡ gives z → rd n ≡ gives z
onward rd n m z e p = ap rd e ∙ p

module _ (rd : ℕ → Parsed) (at : ℕ) (k : Record) (end : ℕ) (h : AskedTwo rd at k end) where
  pair_long :
      length (pair_text k h.a.0 h.b.0)
      ≡ length (text_of (first_of k) h.a.0)
      + (length (between_of (record_of k)) + length (text_of (second_of k) h.b.0))
  unfolding pair_text
  pair_long =
      omega (
        arith,
        length-append (text_of (first_of k) h.a.0) (between_of (record_of k) ++ text_of (second_of k) h.b.0),
        length-append (between_of (record_of k)) (text_of (second_of k) h.b.0),
      )

  module _ (l : Level) (s : l ≡ first_of k) where
    pub first_asked : Asked (rd at) (text_of l) end
    first_asked =
        let f = ap (λ (l : Level). length (text_of l h.a.0)) s in
        record { found = h.a; given = h.first; room = omega (arith, h.room, pair_long, f) }

    module _ {x y : List ℕ} {r : Spot} (m : Makes (rd at) (text_of l) x end y r) where
      first_ends : r.end ≡ end + length (text_of (first_of k) h.a.0)
      first_ends =
          let f = ap (λ (l : Level). length (text_of l h.a.0)) s in
          omega (arith, (m.wrote h.a h.first).ends, f)

      pub between_room : r.end + 64 < 2 ^ 64
      between_room = omega (arith, h.room, pair_long, first_ends)

      module _ {z : List ℕ} {n : ℕ} (p : Pens r.end (between_of (record_of k)) y z n) where
        module _ (l' : Level) (s' : l' ≡ second_of k) where
          pub second_asked : Asked (rd r.next) (text_of l') n
          second_asked =
              let f = ap (λ (l : Level). length (text_of l h.b.0)) s' in
              record {
                found = h.b;
                given = onward rd r.next h.a.1 h.b (m.after h.a h.first) h.second;
                room = omega (arith, h.room, pair_long, first_ends, p.ends, f);
              }

          pub two_made :
              {w : List ℕ} {t : Spot} → Makes (rd r.next) (text_of l') z n w t → MakesTwo rd at k x end w t
          unfolding pair_text
          two_made o =
              record {
                wrote = λ a b u v.
                    pens_more (pens_as (ap (λ (l : Level). text_of l a.0) s) (m.wrote a u))
                    (pens_more p
                    (pens_as (ap (λ (l : Level). text_of l b.0) s')
                    (o.wrote b (onward rd r.next a.1 b (m.after a u) v))));
                after = λ a b u v. o.after b (onward rd r.next a.1 b (m.after a u) v);
              }

-- Three operands, one after another

module _ (rd : ℕ → Parsed) (at end : ℕ) (h : AskedThree rd at end) where
  choice_long :
      length (choice_text h.c.0 h.a.0 h.b.0)
      ≡ length (text_of expr h.c.0)
      + (7 + (length (text_of single h.a.0) + (6 + length (text_of single h.b.0))))
  unfolding choice_text
  choice_long =
      let last = spaced else_word ++ text_of single h.b.0 in
      omega (
        arith,
        length-append (text_of expr h.c.0) (then_text ++ (text_of single h.a.0 ++ last)),
        length-append (text_of single h.a.0) last,
      )

  pub choice_asked : Asked (rd at) (text_of expr) end
  choice_asked = record { found = h.c; given = h.first; room = omega (arith, h.room, choice_long) }

  module _ {x y : List ℕ} {r : Spot} (m : Makes (rd at) (text_of expr) x end y r) where
    pub then_room : r.end + 7 < 2 ^ 64
    then_room = omega (arith, h.room, choice_long, (m.wrote h.c h.first).ends)

    second_read : rd r.next ≡ gives h.a
    second_read = onward rd r.next h.c.1 h.a (m.after h.c h.first) h.second

    module _ {z : List ℕ} {n : ℕ} (p : Pens r.end then_text y z n) where
      pub branch_asked : Asked (rd r.next) (text_of single) n
      branch_asked =
          record {
            found = h.a;
            given = second_read;
            room = omega (arith, h.room, choice_long, (m.wrote h.c h.first).ends, p.ends);
          }

      module _ {u : List ℕ} {t : Spot} (o : Makes (rd r.next) (text_of single) z n u t) where
        branch_ends : t.end ≡ n + length (text_of single h.a.0)
        branch_ends = (o.wrote h.a second_read).ends

        pub else_room : t.end + 6 < 2 ^ 64
        else_room =
            omega (arith, h.room, choice_long, (m.wrote h.c h.first).ends, p.ends, branch_ends)

        module _ {v : List ℕ} {j : ℕ} (q : Pens t.end (spaced else_word) u v j) where
          pub other_asked : Asked (rd t.next) (text_of single) j
          other_asked =
              record {
                found = h.b;
                given = onward rd t.next h.a.1 h.b (o.after h.a second_read) h.third;
                room =
                    omega (
                      arith,
                      h.room,
                      choice_long,
                      (m.wrote h.c h.first).ends,
                      p.ends,
                      branch_ends,
                      q.ends,
                    );
              }

          pub choice_made :
              {w : List ℕ} {s : Spot} → Makes (rd t.next) (text_of single) v j w s → MakesThree rd at x end w s
          unfolding choice_text
          choice_made b =
              let second : (c a : Query × ℕ) → rd at ≡ gives c → rd c.1 ≡ gives a → rd r.next ≡ gives a =
              λ c a e f. onward rd r.next c.1 a (m.after c e) f
              in
              let third : (c a b : Query × ℕ) → rd at ≡ gives c → rd c.1 ≡ gives a → rd a.1 ≡ gives b →
              rd t.next ≡ gives b =
              λ c a b e f g. onward rd t.next a.1 b (o.after a (second c a e f)) g
              in
              record {
                wrote = λ c a d e f g.
                    pens_more (m.wrote c e)
                    (pens_more p
                    (pens_more (o.wrote a (second c a e f)) (pens_more q (b.wrote d (third c a d e f g)))));
                after = λ c a d e f g. b.after d (third c a d e f g);
              }
