-- Parts as readers read them.
--     Primed d k s u o          bytes s, behind a word of kind k, are a primary with o's records
--     Arrived l d i e c k s u w bytes s, behind a word of kind k, are a part of level l with w's records and the word
--                               behind it, which goes on no chain of tightness i or more
--     Operator l m l' d n       word n between parts of levels l and m makes a part of level l'
--     arrived                   a primary and the word behind it
--     extended                  a part, an operator and a part
--     led                       words before a part
--     ended_spelt               a part and the word that ends it
--     fresh                     `1` and the word that ends a part
use Prim.Native.Nat.{ℕ}
use mathlib.Core.Path.{◌≡◌, refl, sym, ap, ◌∙◌, subst}
use mathlib.Core.List.{List, [], ◌∷◌, ◌++◌, append_assoc}
use mathlib.Core.Bool.{Bool}
use native.Mathlib.Omega.{arith}
use Rattle.grammar.specs.Words.{Kind, symbol, word, Word, integer_word}
use Rattle.grammar.specs.Records.{record_ql, record_qx}
use Rattle.grammar.specs.Grammar.{Level, path, primary, Part, words, records, a_primary, integer, stepped}
use Rattle.grammar.specs.Spelled.{Spells}
use Rattle.parsing.specs.declared.Ends.{Ends}
use Rattle.parsing.specs.declared.Ends.TheVariants.{WithText, WithList, WithCall, WithReturn, WithElse}
use Rattle.parsing.specs.declared.Next.{Next}
use Rattle.parsing.specs.declared.Next.TheVariants.{Slash}
use Rattle.parsing.specs.declared.Step.{Step}
use Rattle.parsing.specs.Reader.{next_words, kind_of, operation, test_kind, Operand, Went}
use Rattle.parsing.proofs.SoundWords.{Spelt, Entered, Filled, filled_left, filled_right, spaced_one, spelt_word}
use Rattle.parsing.proofs.SoundWords.{entered_spells, entered_spelt, entered_filled}
use Rattle.parsing.proofs.SoundNumbers.{one, one_value, one_bytes}
use Rattle.parsing.proofs.SoundSteps.{Stepped}
use Rattle.parsing.proofs.SoundNext.{Allowed, After, Finished, finished_none, next_bytes, Following, Loose}
use Rattle.parsing.proofs.SoundNext.{loose_any, end_of, allowed_end, loose_end}

pub record Primed (d : ℕ) (k : Kind) (s u : List ℕ) (o : Operand) : Type 0 where
  pub part : Part primary d
  pub meant : records part ≡ o.made
  pub spelt : Spelt k (words part) o.kind s
  pub filled : Filled s

pub record Arrived (l : Level) (d i : ℕ) (e : Ends) (c : Bool) (k : Kind) (s u : List ℕ) (w : Went) : Type 0 where
  pub part : Part l d
  pub meant : records part ≡ w.made
  pub behind : (more : List Word) (x : List ℕ) → After w.next more x
      → Spells k (words part ++ (next_words w.next ++ more)) (s ++ x)
  pub allowed : Allowed e c w.next
  pub loose : Loose i w.next
  pub finished : Finished w.next u
  pub filled : Filled s

pub record Operator (l m l' : Level) (d : ℕ) (n : Next) : Type 0 where
  pub make : Part l d → Part m d → Part l' d
  pub spells : (p : Part l d) (q : Part m d) → words (make p q) ≡ words p ++ (next_words n ++ words q)
  pub means : (p : Part l d) (q : Part m d) → records (make p q) ≡ operation n ++ (records p ++ records q)
  pub opens : (more : List Word) (x : List ℕ) → Spells (kind_of n) more x → After n more x

-- a primary and the word behind it
pub arrived : {d : ℕ} {e : Ends} {c : Bool} {k : Kind} {s u s' v : List ℕ} {o : Operand} {n : Next} → Primed d k s u o
    → Following e c o.kind s' v n
    → Arrived path d 5 e c k (s ++ s') v (record { made = o.made; next = n })
unfolding words records
arrived {k = k} {s = s} {s' = s'} {n = n} p f =
    record {
      part = a_primary p.part;
      meant = p.meant;
      behind = λ more x h.
          rw (append_assoc s s' x) (p.spelt.behind (next_words n ++ more) (s' ++ x) (f.behind more x h));
      allowed = f.allowed;
      loose = loose_any n;
      finished = f.finished;
      filled = filled_left s s' p.filled;
    }

module _ {l m l' : Level} {d i i' j : ℕ} {e : Ends} {c c' c'' : Bool} {k : Kind} where
  pub extended : {s u s' v : List ℕ} {xs : List ℕ} {n : Next} {w : Went} → Operator l m l' d n
      → Arrived l d i e c k s u (record { made = xs; next = n }) → Arrived m d i' e c' (kind_of n) s' v w
      → Allowed e c'' w.next → Loose j w.next
      → Arrived l' d j e c'' k (s ++ s') v (record { made = operation n ++ (xs ++ w.made); next = w.next })
  extended {s} {u} {s'} {v} {xs} {n} {w} o a b allowed loose =
      record {
        part = o.make a.part b.part;
        meant = o.means a.part b.part
            ∙ (ap (λ z. operation n ++ (z ++ records b.part)) a.meant
            ∙ ap (λ z. operation n ++ (xs ++ z)) b.meant);
        behind = λ more x h.
            subst (λ z. Spells k z (s ++ s' ++ x)) (sym (regroup (next_words w.next ++ more)))
            (subst
            (λ z. Spells k (words a.part ++ (next_words n ++ (words b.part ++ (next_words w.next ++ more)))) z)
            (sym (append_assoc s s' x))
            (a.behind (words b.part ++ (next_words w.next ++ more)) (s' ++ x)
            (o.opens (words b.part ++ (next_words w.next ++ more)) (s' ++ x) (b.behind more x h))));
        allowed = allowed;
        loose = loose;
        finished = b.finished;
        filled = filled_left s s' a.filled;
      }
    where
      regroup : (r : List Word)
          → words (o.make a.part b.part) ++ r ≡ words a.part ++ (next_words n ++ (words b.part ++ r))
      regroup r =
          ap (λ z. z ++ r) (o.spells a.part b.part)
          ∙ (append_assoc (words a.part) (next_words n ++ words b.part) r
          ∙ ap (λ z. words a.part ++ z) (append_assoc (next_words n) (words b.part) r))

module _ {l m : Level} {d i : ℕ} {e : Ends} {c : Bool} {k k' : Kind} where
  pub led : {s s' u : List ℕ} {ws : List Word} {w : Went} {bs : List ℕ} → Spelt k ws k' s
      → (b : Arrived m d i e c k' s' u w) (p : Part l d) → words p ≡ ws ++ words b.part → records p ≡ bs
      → Arrived l d i e c k (s ++ s') u (record { made = bs; next = w.next })
  led {s} {s'} {u} {ws} {w} f b p spells means =
      record {
        part = p;
        meant = means;
        behind = λ more x h.
            subst (λ z. Spells k z (s ++ s' ++ x)) (sym (regroup (next_words w.next ++ more)))
            (subst (λ z. Spells k (ws ++ (words b.part ++ (next_words w.next ++ more))) z)
            (sym (append_assoc s s' x))
            (f.behind (words b.part ++ (next_words w.next ++ more)) (s' ++ x) (b.behind more x h)));
        allowed = b.allowed;
        loose = b.loose;
        finished = b.finished;
        filled = filled_right s s' b.filled;
      }
    where
      regroup : (r : List Word) → words p ++ r ≡ ws ++ (words b.part ++ r)
      regroup r = ap (λ z. z ++ r) spells ∙ append_assoc ws (words b.part) r

module _ {l : Level} {d i : ℕ} {e : Ends} {c : Bool} {k : Kind} {s u : List ℕ} {w : Went} where
  -- the part as one of a looser level
  pub lifted : {m : Level} {j : ℕ} → (a : Arrived l d i e c k s u w) (p : Part m d) → words p ≡ words a.part
      → records p ≡ records a.part → Loose j w.next → Arrived m d j e c k s u w
  lifted a p spells means loose =
      record {
        part = p;
        meant = means ∙ a.meant;
        behind = λ more x h. rw spells (a.behind more x h);
        allowed = a.allowed;
        loose = loose;
        finished = a.finished;
        filled = a.filled;
      }

  pub entered_part : Entered k (Arrived l d i e c symbol) s u w → Arrived l d i e c k s u w
  entered_part h =
      record {
        part = h.inside.part;
        meant = h.inside.meant;
        behind = λ more x f.
            entered_spells h h.inside.filled (words h.inside.part ++ (next_words w.next ++ more)) x
            (h.inside.behind more x f);
        allowed = h.inside.allowed;
        loose = h.inside.loose;
        finished = h.inside.finished;
        filled = entered_filled h h.inside.filled;
      }

  pub ended_spelt : (n : Next) → ((more : List Word) (x : List ℕ) → Spells (kind_of n) more x → After n more x)
      → (a : Arrived l d i e c k s u w) → w.next ≡ n → Spelt k (words a.part ++ next_words n) (kind_of n) s
  ended_spelt n opens a same =
      record {
        behind = λ more x h.
            rw (append_assoc (words a.part) (next_words n) more)
            (subst (λ z. After z more x → Spells k (words a.part ++ (next_words z ++ more)) (s ++ x)) same
            (a.behind more x) (opens more x h));
      }

pub entered_primed : {d : ℕ} {k : Kind} {s u : List ℕ} {o : Operand} → Entered k (Primed d symbol) s u o
    → Primed d k s u o
entered_primed h =
    record {
      part = h.inside.part;
      meant = h.inside.meant;
      spelt = entered_spelt h h.inside.filled h.inside.spelt;
      filled = entered_filled h h.inside.filled;
    }

-- Steps

module _ {d : ℕ} {e : Ends} {c : Bool} {k : Kind} where
  pub walked : {s u s₁ s₂ v : List ℕ} {xs : List ℕ} {st : Step} {n : Next}
      → Arrived path d 5 e c k s u (record { made = xs; next = Slash }) → Stepped s₁ st
      → Following e c (test_kind st.test) s₂ v n
      → Arrived path d 5 e c k (s ++ (s₁ ++ s₂)) v
      (record { made = record_qx st.axis st.test ++ xs; next = n })
  unfolding words records
  walked {s} {u} {s₁} {s₂} {v} {xs} {st} {n} a h f =
      record {
        part = stepped a.part st.axis h.test;
        meant = rw (h.meant, a.meant);
        behind = λ more x g.
            rw (append_assoc s (s₁ ++ s₂) x, append_assoc s₁ s₂ x)
            (rw (append_assoc (words a.part) _ (next_words n ++ more))
            (a.behind _ (s₁ ++ (s₂ ++ x)) (h.spelt.behind (next_words n ++ more) (s₂ ++ x) (f.behind more x g))));
        allowed = f.allowed;
        loose = loose_any n;
        finished = f.finished;
        filled = filled_left s (s₁ ++ s₂) a.filled;
      }

-- The shortest parts

end_behind : (e : Ends) (k : Kind) (more : List Word) (x : List ℕ) → After (end_of e) more x
    → Spells k (next_words (end_of e) ++ more) ((32 ∷ next_bytes (end_of e)) ++ x)
unfolding Spells
end_behind WithText k more x (none, spaced) = rw none (spaced_one.0, spaced)
end_behind WithList k more x h = (32 ∷ [], x, refl, spaced_one, tt, h)
end_behind WithCall k more x h = (32 ∷ [], x, refl, spaced_one, tt, h)
end_behind WithReturn k more x h = (32 ∷ [], x, refl, spaced_one, tt, h)
end_behind WithElse k more x h = (32 ∷ [], x, refl, spaced_one, tt, h)

pub following_end : (e : Ends) (c : Bool) (k : Kind) → Following e c k (32 ∷ next_bytes (end_of e)) [] (end_of e)
following_end e c k =
    record {
      allowed = allowed_end e c;
      finished = finished_none (end_of e);
      behind = end_behind e k;
    }

pub fresh : (d i : ℕ) (e : Ends) (c : Bool) (k : Kind)
    → Arrived path d i e c k ((32 ∷ 49 ∷ []) ++ (32 ∷ next_bytes (end_of e))) []
    (record { made = record_ql 1; next = end_of e })
unfolding words records
fresh d i e c k =
    let a = arrived (primed_one d k) (following_end e c word) in
    lifted a a.part refl refl (loose_end e i)
  where
    primed_one : (d : ℕ) (k : Kind)
        → Primed d k (32 ∷ 49 ∷ []) [] (record { made = record_ql 1; kind = word })
    primed_one d k =
        record {
          part = integer one (rw one_value (omega arith));
          meant = ap record_ql one_value;
          spelt = rw (← one_bytes) (spelt_word k (integer_word one) (32 ∷ []) spaced_one tt);
          filled = tt;
        }
