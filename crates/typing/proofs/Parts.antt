-- What the members of the cycle answer, by what they called.
--     two_stuck, three_stuck, sides_stuck     a part of several whose first is stuck
--     two_on                    two parts, the first being read
--     three_on, three_off       the parts of if, behind its condition: the word `then` comes, or does not
--     begun_operand             the rest of `false`, behind its f
--     operand_at                an operand, past the spaces
--     operand_on, operand_off   .. where the spaces are passed; where the word joins what stands before
--     whole_opens, list_opens, call_opens     what an opening says, by case
--     list_ended, call_ended    the part inside is read to its parenthesis
--     path_on, path_off         what stands behind an operand; an operand that is stuck
--     chain_read, chain_halts   a whole chain behind its first side; .. that is stuck
--     turned                    one turn of a chain, behind its operator's record
--     sides_off, sides_on       behind the first side of a comparison no comparison comes; one comes
--     binding_begins, choice_begins, sides_begin, none_begins     what a beginning says, by case
--     binding_read, choice_read, sides_read     the parts behind each
use Prim.Native.Nat.{ℕ}
use mathlib.Core.Path.{◌≡◌, refl, sym, ◌∙◌, ap}
use mathlib.Core.List.{List, ◌++◌}
use mathlib.Core.Bool.{Bool, true, false}
use native.Mathlib.Omega.{arith}
use lib.ListN.{drop}
use Rattle.std.specs.Prelude.{Result, Ok, Err}
use Rattle.grammar.specs.Words.{Kind, symbol, word, then_word}
use Rattle.numerals.specs.declared.Stuck.{Stuck}
use Rattle.parsing.specs.declared.Ends.{Ends}
use Rattle.parsing.specs.declared.Ends.TheVariants.{WithCall, WithReturn, WithElse}
use Rattle.parsing.specs.declared.Next.{Next}
use Rattle.parsing.specs.Reader.{Res, ok, stuck, then, Readers, Operand, Went, went, operation, kind_of}
use Rattle.parsing.specs.Reader.{tightness}
use Rattle.parsing.specs.Reader.{read_word, read_false, read_primary, read_path, read_sides}
use Rattle.spelling.specs.declared.Before.{Before}
use Rattle.spelling.specs.Answers.{Reads, entered, kind_is}
use Rattle.spelling.proofs.Answering.{entry_then}
use Rattle.recording.specs.Recorded.{Inserts}
use Rattle.operands.specs.declared.Part.{Part}
use Rattle.operands.specs.Going.{Goes, Halts, ReadsOperand, ReadsPart, FollowsPart}
use Rattle.operands.specs.Going.{Adding, Putting, operand_value, part_value}
use Rattle.operands.specs.Single.{behind_operand}
use Rattle.operands.proofs.Follows.{part_by, part_read, halts_by, stuck_then, off_then, past_then, goes_then}
use Rattle.operands.proofs.Follows as follows
use Rattle.openings.specs.declared.Opening.{Opening}
use Rattle.openings.specs.declared.Opening.TheVariants as opening
use Rattle.beginnings.specs.declared.Beginning.{Beginning}
use Rattle.beginnings.specs.declared.Beginning.TheVariants as beginning
use Rattle.openings.specs.Opened.{ListComes, CallComes, OpeningIs, Opens}
use Rattle.beginnings.specs.Begun.{binding_rest, choice_rest, BindingComes, ChoiceComes, SidesCome, BeginningIs, Begins}
use Rattle.typing.specs.declared.Chain.{Chain}
use Rattle.typing.specs.declared.Chain.TheVariants.{Sides}
use Rattle.typing.specs.Cycle.{ended_read, inner_expr, inner_single, two_parts, three_parts, operand_of}
use Rattle.typing.specs.Cycle.{side_of, one_turn, more_of, whole_of}
use Rattle.typing.proofs.Chains.{chain_off, chain_on}
use Rattle.typing.proofs.Joins.{part_within, ended_within, adding_on, adding_behind, putting_added}

-- A part of several whose first is stuck

module _ {text : List ℕ} {p : ℕ} (rd : Readers) (d : ℕ) where
  pub two_stuck : (f : Ends) (k : Kind) (e : Ends) (t : List ℕ) → Halts text (inner_single rd d f k t) p
      → Halts text (two_parts rd d f k e t) p
  two_stuck f k e t h =
      stuck_then (λ a u. then (rd.single d e word u) (λ b. went (a.made ++ b.made) b.next)) h

  pub three_stuck : (e : Ends) (t : List ℕ) → Halts text (inner_expr rd d t) p → Halts text (three_parts rd d e t) p
  three_stuck e t h =
      stuck_then
      (λ c u.
      then (read_word symbol then_word u)
      (λ done v. then (two_parts rd d WithElse word e v) (λ w. went (c.made ++ w.made) w.next))) h

  pub sides_stuck : (e : Ends) (begun : Bool) (k : Kind) (t : List ℕ)
      → Halts text (side_of Sides rd d e false begun k t) p
      → Halts text (read_sides rd d e begun k t) p
  sides_stuck e begun k t h = stuck_then (λ w. more_of Sides rd d e true w.made w.next) h

-- Two parts, and three

module _ {text before between after : List ℕ} {made m from : ℕ} {n : Next} {first : Res Went}
    (g : Goes text made first (part_value n) (Adding before between made m) from m) where
  joined : {second : Res Went} (r : Result (Part Next) Stuck) → ReadsPart text between after m second r
      → ReadsPart text before after made (then second (λ w. went (g.bytes ++ w.made) w.next)) r
  joined r h =
      part_within (λ bs. g.bytes ++ bs) made (Adding before after made) r g.grows
      (λ to bs k. adding_on g.kept k) h

module _ {text before between after t : List ℕ} {made m from : ℕ} {n : Next} (rd : Readers) (d : ℕ) where
  pub two_on : (f : Ends) (k : Kind) (e : Ends)
      → Goes text made (inner_single rd d f k t) (part_value n) (Adding before between made m) from m
      → (r : Result (Part Next) Stuck)
      → ReadsPart text between after m (inner_single rd d e word (drop from text)) r
      → ReadsPart text before after made (two_parts rd d f k e t) r
  two_on f k e g r h =
      part_by r
      (goes_then (λ a u. then (rd.single d e word u) (λ b. went (a.made ++ b.made) b.next)) g)
      (joined g r h)

  module _ (e : Ends) (g : Goes text made (inner_expr rd d t) (part_value n) (Adding before between made m) from m)
    where
      pub three_on : {p : ℕ} → Reads text (read_word symbol then_word (drop from text)) (ok tt (drop p text)) p
          → (r : Result (Part Next) Stuck)
          → ReadsPart text between after m (two_parts rd d WithElse word e (drop p text)) r
          → ReadsPart text before after made (three_parts rd d e t) r
      three_on w r h =
          part_by r
          (goes_then
          (λ c u.
          then (read_word symbol then_word u)
          (λ done v. then (two_parts rd d WithElse word e v) (λ w. went (c.made ++ w.made) w.next))) g
          ∙ past_then
          (λ done v. then (two_parts rd d WithElse word e v) (λ w. went (g.bytes ++ w.made) w.next)) w)
          (joined g r h)

-- .. where the word `then` does not come
pub three_off : {text before between t : List ℕ} {made m from p : ℕ} {n : Next} (rd : Readers) (d : ℕ) (e : Ends)
    → Goes text made (inner_expr rd d t) (part_value n) (Adding before between made m) from m
    → Reads text (read_word symbol then_word (drop from text)) (stuck (drop p text)) p
    → Halts text (three_parts rd d e t) p
three_off rd d e g w =
    halts_by
    (goes_then
    (λ c u.
    then (read_word symbol then_word u)
    (λ done v. then (two_parts rd d WithElse word e v) (λ w. went (c.made ++ w.made) w.next))) g)
    (off_then
    (λ done v. then (two_parts rd d WithElse word e v) (λ w. went (g.bytes ++ w.made) w.next)) w)

-- An operand

operand_at : (rd : Readers) (d : ℕ) (k : Kind) (t : List ℕ) (begun : Bool) → begun ≡ false
    → operand_of rd d begun k t ≡ then (entered k t) (λ done. read_primary rd d)
operand_at rd d k t begun e = rw e (entry_then k (read_primary rd d) t)

module _ {text before after : List ℕ} {made : ℕ} (rd : Readers) (d : ℕ) (k : Kind) (t : List ℕ) where
  pub begun_operand : (begun : Bool) → begun ≡ true → (r : Result (Part Before) Stuck)
      → ReadsOperand text before after made (read_false t) r
      → ReadsOperand text before after made (operand_of rd d begun k t) r
  begun_operand begun e r h = rw e h

  pub operand_on : {p : ℕ} (begun : Bool) → begun ≡ false → Reads text (entered k t) (ok tt (drop p text)) p
      → (r : Result (Part Before) Stuck)
      → ReadsOperand text before after made (read_primary rd d (drop p text)) r
      → ReadsOperand text before after made (operand_of rd d begun k t) r
  operand_on begun e w r h =
      part_by r (operand_at rd d k t begun e ∙ past_then (λ done. read_primary rd d) w) h

pub operand_off : {text : List ℕ} {p : ℕ} (rd : Readers) (d : ℕ) (k : Kind) (t : List ℕ) (begun : Bool)
    → begun ≡ false
    → Reads text (entered k t) (stuck (drop p text)) p
    → Halts text (operand_of rd d begun k t) p
operand_off rd d k t begun e w =
    halts_by (operand_at rd d k t begun e) (off_then (λ done. read_primary rd d) w)

module _ {text before after : List ℕ} {made : ℕ} {rd : Readers} {d : ℕ} {def : Res Operand}
    {o : Result Opening Stuck} (h : Opens text before after made rd d def o) where
  is_opening : (q : Result Opening Stuck) → o ≡ q → OpeningIs text before after made rd d def q
  is_opening q e = rw (sym e) h.opens

  pub none_opens : {s : Stuck} → o ≡ Err s → ReadsOperand text before after made def (Err s)
  unfolding OpeningIs
  none_opens {s} e = is_opening (Err s) e

  module _ {x : Opening} (e : o ≡ Ok x) where
    pub whole_opens : {r : Part Before} → x ≡ opening.Whole r → ReadsOperand text before after made def (Ok r)
    unfolding OpeningIs
    whole_opens {r} f = is_opening (Ok (opening.Whole r)) (e ∙ ap Ok f)

    pub list_opens : {from parens : ℕ} → x ≡ opening.List from parens
        → ListComes text before after rd def from parens
    unfolding OpeningIs
    list_opens {from} {parens} f = is_opening (Ok (opening.List from parens)) (e ∙ ap Ok f)

    pub call_opens : {from to : ℕ} → x ≡ opening.Call from to → CallComes text before after made rd d def from to
    unfolding OpeningIs
    call_opens {from} {to} f = is_opening (Ok (opening.Call from to)) (e ∙ ap Ok f)

module _ {text before between after : List ℕ} {made : ℕ} {rd : Readers} {def : Res Operand} where
  pub list_ended : {from parens : ℕ} → ListComes text before between rd def from parens → (r : Result (Part Next) Stuck)
      → ReadsPart text between after made (inner_expr rd parens (drop from text)) r
      → ReadsOperand text before after made def (ended_read r)
  list_ended l r h =
      part_by (ended_read r) l.means
      (rw l.same at (ended_within (λ bs. bs) made (Adding between after made) r (omega arith) (λ to bs k. k) h))

  pub call_ended : {d from to : ℕ} → (l : CallComes text before between made rd d def from to)
      → (r : Result (Part Next) Stuck)
      → ReadsPart text between after to (inner_single rd d WithCall symbol (drop from text)) r
      → ReadsOperand text before after made def (ended_read r)
  call_ended l r h =
      part_by (ended_read r) l.means
      (ended_within (λ bs. l.mark ++ bs) made (Adding before after made) r l.added.grows
      (λ to bs k. adding_on (record { adds = l.added.adds }) k) h)

-- A path

module _ {text before after : List ℕ} {made : ℕ} (rd : Readers) (d : ℕ) (e : Ends) (c begun : Bool) (k : Kind)
    (t : List ℕ) where
  pub path_on : {between : List ℕ} (b : Before) {from m : ℕ}
      → (g : Goes text made (operand_of rd d begun k t) (operand_value b) (Adding before between made m) from m)
      → (r : Result (Part Next) Stuck)
      → ((ys : List ℕ) → FollowsPart text between after made m ys
      (behind_operand rd e c (kind_is b) ys (drop from text)) r)
      → ReadsPart text before after made (read_path rd d e c begun k t) r
  path_on b g r h =
      part_by r (goes_then (λ o u. behind_operand rd e c o.kind o.made u) g)
      (follows.part_within made (Adding before after made) r g.grows (λ to bs p. putting_added g.kept p)
      (h g.bytes))

pub path_off : {text : List ℕ} {p : ℕ} (rd : Readers) (d : ℕ) (e : Ends) (c begun : Bool) (k : Kind) (t : List ℕ)
    → Halts text (operand_of rd d begun k t) p
    → Halts text (read_path rd d e c begun k t) p
path_off rd d e c begun k t h = stuck_then (λ o u. behind_operand rd e c o.kind o.made u) h

-- Chains

module _ {text before after : List ℕ} {made : ℕ} (ch : Chain) (rd : Readers) (d : ℕ) (e : Ends) (c begun : Bool)
    (k : Kind) (t : List ℕ) where
  pub chain_read : {between : List ℕ} {from m : ℕ} {n : Next}
      → (g : Goes text made (side_of ch rd d e c begun k t) (part_value n) (Adding before between made m) from m)
      → (r : Result (Part Next) Stuck)
      → ((ys : List ℕ) → FollowsPart text between after made m ys (more_of ch rd d e c ys n (drop from text)) r)
      → ReadsPart text before after made (whole_of ch rd d e c begun k t) r
  chain_read g r h =
      part_by r (goes_then (λ w. more_of ch rd d e c w.made w.next) g)
      (follows.part_within made (Adding before after made) r g.grows (λ to bs p. putting_added g.kept p)
      (h g.bytes))

pub chain_halts : {text : List ℕ} {p : ℕ} (ch : Chain) (rd : Readers) (d : ℕ) (e : Ends) (c begun : Bool) (k : Kind)
    (t : List ℕ)
    → Halts text (side_of ch rd d e c begun k t) p
    → Halts text (whole_of ch rd d e c begun k t) p
chain_halts ch rd d e c begun k t h = stuck_then (λ w. more_of ch rd d e c w.made w.next) h

pub turned : {text before between after : List ℕ} {start made m : ℕ} (ch : Chain) (rd : Readers) (d : ℕ) (e : Ends)
    (c : Bool) (n : Next) (k : Kind) (t ys : List ℕ) (r : Result (Part Next) Stuck)
    → Inserts (operation n) start made before between m
    → k ≡ kind_of n
    → ReadsPart text between after m (side_of ch rd d e c false k t) r
    → FollowsPart text before after start made ys (one_turn ch rd d e c ys n t) r
turned {text} {before} {between} {after} {start} {made} ch rd d e c n k t ys r i same h =
    part_within (λ bs. operation n ++ (ys ++ bs)) made (Putting before after start made ys) r i.grows
    (λ to bs a. adding_behind ys i a) (rw same at h)

module _ {text before between : List ℕ} {made m from : ℕ} {n : Next} (rd : Readers) (d : ℕ) (e : Ends) (begun : Bool)
    (k : Kind) (t : List ℕ)
    (g : Goes text made (side_of Sides rd d e false begun k t) (part_value n) (Adding before between made m) from m)
  where
    pub sides_off : (tightness n ≡ 1 → ⊥)
        → ReadsPart text before between made (read_sides rd d e begun k t)
        (Ok (record { behind = n; next = from; made = m }))
    sides_off h =
        part_read (Adding before between made)
        (record {
          bytes = g.bytes;
          means =
              goes_then (λ w. more_of Sides rd d e true w.made w.next) g
              ∙ chain_off Sides rd d e true g.bytes n (drop from text) h;
          inside = g.inside;
          grows = g.grows;
          within = g.within;
          kept = g.kept;
        })

    pub sides_on : tightness n ≡ 1 → {after : List ℕ} (r : Result (Part Next) Stuck)
        → ((ys : List ℕ) → FollowsPart text between after made m ys
        (one_turn Sides rd d e true ys n (drop from text)) r)
        → ReadsPart text before after made (read_sides rd d e begun k t) r
    sides_on on {after} r h =
        part_by r
        (goes_then (λ w. more_of Sides rd d e true w.made w.next) g
        ∙ chain_on Sides rd d e true g.bytes n (drop from text) on)
        (part_within (λ bs. bs) made (Adding before after made) r g.grows (λ to bs p. putting_added g.kept p)
        (h g.bytes))

-- A Single, by how it begins

module _ (rd : Readers) (d : ℕ) (e : Ends) (bs : List ℕ) where
  marked_last : (xs : List ℕ) (m : Res Went)
      → then m (λ b. went (bs ++ (xs ++ b.made)) b.next)
      ≡ then (then m (λ b. went (xs ++ b.made) b.next)) (λ w. went (bs ++ w.made) w.next)
  marked_last xs (ok w t) = refl
  marked_last xs (stuck t) = refl

  marked_two : (m : Res Went)
      → then m (λ a u. then (rd.single d e word u) (λ b. went (bs ++ (a.made ++ b.made)) b.next))
      ≡ then
      (then m (λ a u. then (rd.single d e word u) (λ b. went (a.made ++ b.made) b.next)))
      (λ w. went (bs ++ w.made) w.next)
  marked_two (ok a u) = marked_last a.made (rd.single d e word u)
  marked_two (stuck u) = refl

  binding_by : (k : Kind) (t : List ℕ)
      → binding_rest rd d e bs k t
      ≡ then (two_parts rd d WithReturn k e t) (λ w. went (bs ++ w.made) w.next)
  binding_by k t = marked_two (rd.single d WithReturn k t)

  three_last : (xs ys : List ℕ) (m : Res Went)
      → then m (λ b. went (bs ++ (xs ++ (ys ++ b.made))) b.next)
      ≡ then
      (then (then m (λ b. went (ys ++ b.made) b.next)) (λ w. went (xs ++ w.made) w.next))
      (λ w. went (bs ++ w.made) w.next)
  three_last xs ys (ok w t) = refl
  three_last xs ys (stuck t) = refl

  three_two : (xs : List ℕ) (m : Res Went)
      → then m (λ a u. then (rd.single d e word u) (λ b. went (bs ++ (xs ++ (a.made ++ b.made))) b.next))
      ≡ then
      (then
      (then m (λ a u. then (rd.single d e word u) (λ b. went (a.made ++ b.made) b.next)))
      (λ w. went (xs ++ w.made) w.next))
      (λ w. went (bs ++ w.made) w.next)
  three_two xs (ok a u) = three_last xs a.made (rd.single d e word u)
  three_two xs (stuck u) = refl

  three_then : (xs : List ℕ) (m : Res (Unit {0}))
      → then m
      (λ done v.
      then (rd.single d WithElse word v)
      (λ a u. then (rd.single d e word u) (λ b. went (bs ++ (xs ++ (a.made ++ b.made))) b.next)))
      ≡ then
      (then m (λ done v. then (two_parts rd d WithElse word e v) (λ w. went (xs ++ w.made) w.next)))
      (λ w. went (bs ++ w.made) w.next)
  three_then xs (ok done v) = three_two xs (rd.single d WithElse word v)
  three_then xs (stuck v) = refl

  three_by : (m : Res Went)
      → then m
      (λ c t₂.
      then (read_word symbol then_word t₂)
      (λ done t₃.
      then (rd.single d WithElse word t₃)
      (λ a t₄.
      then (rd.single d e word t₄)
      (λ b. went (bs ++ (c.made ++ (a.made ++ b.made))) b.next))))
      ≡ then
      (then m
      (λ c u.
      then (read_word symbol then_word u)
      (λ done v. then (two_parts rd d WithElse word e v) (λ w. went (c.made ++ w.made) w.next))))
      (λ w. went (bs ++ w.made) w.next)
  three_by (ok c u) = three_then c.made (read_word symbol then_word u)
  three_by (stuck u) = refl

  choice_by : (t : List ℕ)
      → choice_rest rd d e bs tt t ≡ then (three_parts rd d e t) (λ w. went (bs ++ w.made) w.next)
  choice_by t = three_by (inner_expr rd d t)

module _ {text before after : List ℕ} {made : ℕ} {rd : Readers} {d : ℕ} {e : Ends} {def : Res Went}
    {b : Result Beginning Stuck} (h : Begins text before after made rd d e def b) where
  is_beginning : (q : Result Beginning Stuck) → b ≡ q → BeginningIs text before after made rd d e def q
  is_beginning q told = rw (sym told) h.begins

  pub none_begins : {s : Stuck} → b ≡ Err s → Halts text def s.0
  unfolding BeginningIs
  none_begins {s} told = is_beginning (Err s) told

  module _ {x : Beginning} (g : b ≡ Ok x) where
    pub binding_begins : {from to : ℕ} {k : Before} → x ≡ beginning.Binding from to k
        → BindingComes text before after made rd d e def from to (kind_is k)
    unfolding BeginningIs
    binding_begins {from} {to} {k} told = is_beginning (Ok (beginning.Binding from to k)) (g ∙ ap Ok told)

    pub choice_begins : {from to : ℕ} → x ≡ beginning.Choice from to
        → ChoiceComes text before after made rd d e def from to
    unfolding BeginningIs
    choice_begins {from} {to} told = is_beginning (Ok (beginning.Choice from to)) (g ∙ ap Ok told)

    pub sides_begin : {from : ℕ} {begun : Bool} → x ≡ beginning.Sides from begun
        → SidesCome text before after rd d e def from begun
    unfolding BeginningIs
    sides_begin {from} {begun} told = is_beginning (Ok (beginning.Sides from begun)) (g ∙ ap Ok told)

module _ {text before between after : List ℕ} {made : ℕ} {rd : Readers} {d : ℕ} {e : Ends} {def : Res Went} where
  pub binding_read : {from to : ℕ} {k : Kind} → (b : BindingComes text before between made rd d e def from to k)
      → (r : Result (Part Next) Stuck)
      → ReadsPart text between after to (two_parts rd d WithReturn k e (drop from text)) r
      → ReadsPart text before after made def r
  binding_read {from} {to} {k} b r h =
      part_by r (b.means ∙ binding_by rd d e b.mark k (drop from text))
      (part_within (λ bs. b.mark ++ bs) made (Adding before after made) r b.added.grows
      (λ to bs p. adding_on (record { adds = b.added.adds }) p) h)

  pub choice_read : {from to : ℕ} → (b : ChoiceComes text before between made rd d e def from to)
      → (r : Result (Part Next) Stuck)
      → ReadsPart text between after to (three_parts rd d e (drop from text)) r
      → ReadsPart text before after made def r
  choice_read {from} {to} b r h =
      part_by r (b.means ∙ choice_by rd d e b.mark (drop from text))
      (part_within (λ bs. b.mark ++ bs) made (Adding before after made) r b.added.grows
      (λ to bs p. adding_on (record { adds = b.added.adds }) p) h)

  pub sides_read : {from : ℕ} {begun : Bool} → SidesCome text before between rd d e def from begun
      → (r : Result (Part Next) Stuck)
      → ReadsPart text between after made (read_sides rd d e begun symbol (drop from text)) r
      → ReadsPart text before after made def r
  sides_read b r h = part_by r b.means (rw b.same at h)
