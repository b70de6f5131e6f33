-- The record at an offset: which tree stands there, and what its fields are.
--     deep             there is a tree, so the depth left is not 0
--     unsound          there is a tree, so there is a record
--     kind_parses      the tree of a record whose kind is known
--     kind_ranged, kind_small     its fields are in their ranges
--     literal_made, root_made, empty_made, variable_made    what the rules of records without operands write
use Rattle.std.specs.Prelude.{Option, Some, None}
use Prim.Native.Nat.{ℕ, ◌-◌, ◌<◌}
use mathlib.Core.Path.{◌≡◌, sym, ap, ◌∙◌, subst}
use mathlib.Core.List.{List, []}
use mir.Syntax.{w64}
use mir.Val.{SFits, to_z, of_z}
use mir.Facts.{to_z-of_z}
use lib.IntN.{ℤ}
use lib.ListN.{get_or}
use Rattle.cells.specs.Bytes.{word}
use Rattle.meaning.specs.Query.{QL, QE, QR, QV, record_of}
use Rattle.meaning.specs.Translation.{tr, rule_l, rule_e, rule_r}
use Rattle.laws.proofs.Outcomes.{fails_gives}
use Rattle.query_records.specs.declared.Decoded.{Decoded}
use Rattle.query_records.specs.declared.Record.{Record}
use Rattle.query_records.specs.Decoded as Code
use Rattle.query_records.specs.Decoded.{SmallLiteral, Means}
use Rattle.query_walks.specs.Parse.{trees, parse}
use Rattle.query_records.specs.Fields.{Ranged}
use Rattle.query_walks.proofs.Callers.{unfound_parses, found_parses, shallow_parses}
use Rattle.query_records.proofs.Callers.{found_sound, found_small}
use Rattle.adding.specs.declared.Pen.{Pen}
use Rattle.adding.specs.declared.Output.{Output}
use Rattle.adding.specs.Ruled.{Wrote, Ruled}
use Rattle.adding.proofs.Adding.{wrote_none}
use Rattle.translating.specs.Translating.{Asked, Translates}

module _ (bs : List ℕ) (at d : ℕ) (p : Pen) (h : Asked (parse d bs at) p) where
  pub deep : d ≡ 0 → ⊥
  deep z = fails_gives (h.tree.q, h.tree.end) (sym (shallow_parses bs at d z) ∙ h.tree.given)

  module _ (r : Option Decoded) (m : Means r (record_of bs at (word bs at 2))) where
    pub unsound : r ≡ None → ⊥
    unsound u = fails_gives (h.tree.q, h.tree.end) (sym (unfound_parses bs at r m u d) ∙ h.tree.given)

    module _ (f : Decoded) (s : r ≡ Some f) {k : Record} (e : f.kind ≡ k) where
      pub kind_parses : parse d bs at ≡ trees (parse (d - 1) bs) at f.next (Code.record_of k)
      kind_parses =
          found_parses bs at r m f s d deep
          ∙ ap (λ (k : Record). trees (parse (d - 1) bs) at f.next (Code.record_of k)) e

      pub kind_ranged : Ranged (Code.record_of k)
      kind_ranged = subst (λ (k : Record). Ranged (Code.record_of k)) e (found_sound bs at r m f s).ranged

      pub kind_small : SmallLiteral k
      kind_small = subst SmallLiteral e (found_small bs at r m f s)

-- Records without operands

module _ (l : ℕ) (ts : List ℕ) {next : ℕ} {x y : List ℕ} {p : Pen} {r : Output} where
  pub literal_made :
      (at : ℕ) (z w : ℤ) → SFits w64 z → z ≡ w → Ruled (rule_l p.operators l (to_z w64 (of_z w64 z))) next x p y r →
      Translates (QL at w) next l ts x p y r
  unfolding tr
  literal_made at z w h e g f i =
      subst (λ (u : ℤ). Ruled (rule_l p.operators l u) next x p y r) (to_z-of_z h ∙ e) g

  pub empty_made : (at : ℕ) → Ruled (rule_e p.operators l) next x p y r → Translates (QE at) next l ts x p y r
  unfolding tr
  empty_made at g e h = g

  pub root_made : (at k : ℕ) → Ruled (rule_r p.operators l k) next x p y r → Translates (QR at k) next l ts x p y r
  unfolding tr
  root_made at k g e h = g

pub variable_made :
    (at v : ℕ) (next l : ℕ) (ts x : List ℕ) (p : Pen) (r : Output) → v < 8 →
    r ≡ record { table = get_or ts v 0; pen = p; next = next } → Translates (QV at v) next l ts x p x r
unfolding tr
variable_made at v next l ts x p r h s e k =
    record {
      wrote = subst (λ (q : Pen). Wrote [] x p x q) (sym (ap (λ (o : Output). o.pen) s)) (wrote_none x p);
      table = ap (λ (o : Output). o.table) s ∙ k v h;
      after = ap (λ (o : Output). o.next) s;
    }
