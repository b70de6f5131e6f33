-- The readers of each level are local where the readers of parts inside are, for texts shorter by a byte.
--     Inner x n rd rd'     the readers of rd are local with those of rd', for texts shorter than n
--     local-.., takes-..   the readers of each level: what comes behind a byte for texts shorter than n, the others
--                          for texts shorter than n + 1
use Prim.Native.Nat.{ℕ, zero, suc}
use mathlib.Core.Path.{refl}
use mathlib.Core.List.{List, [], ◌∷◌, ◌++◌}
use mathlib.Core.Bool.{Bool, true, false}
use lib.Dec.{eqb}
use Rattle.codes.specs.declared.Axis.TheVariants.{Child, Descendant, DescendantOrSelf, Itself}
use Rattle.codes.specs.declared.Axis.TheVariants.{Parent, Ancestor, Following, Preceding}
use Rattle.grammar.specs.Words.{Kind, symbol, word, name, Word, open_sign, close_sign, dollar_sign, becomes_sign}
use Rattle.grammar.specs.Words.{in_word, then_word, axis_sign}
use Rattle.grammar.specs.Records.{minus_bits, record_ql, record_qb, record_qe, record_qr, record_qv, record_qt, record_qf}
use Rattle.grammar.specs.Records.{record_qi, record_qc, record_qd, record_qx}
use Rattle.parsing.specs.declared.Ends.{Ends}
use Rattle.parsing.specs.declared.Ends.TheVariants.{WithList, WithCall, WithReturn, WithElse}
use Rattle.parsing.specs.declared.Next.{Next}
use Rattle.parsing.specs.Reader.{Reader, tightness, operation, kind_of, test_kind, Went, operand, went}
use Rattle.parsing.specs.Reader.{Readers, turn, read_truth, read_false, read_root, read_deeper, read_group, read_call}
use Rattle.parsing.specs.Reader.{read_primary, more_steps, read_path, more_factors, read_product, more_terms, read_sum}
use Rattle.parsing.specs.Reader.{more_sides, read_sides, read_binding, read_choice, read_single, more_items, read_expr}
use Rattle.parsing.specs.Reader.{read_axis, read_step}
use Rattle.parsing.proofs.Local.{Likeness, Local, local_then, local_give, local_halt}
use Rattle.parsing.proofs.Local.{local_less, local_either, local_byte, local_entry}
use Rattle.parsing.proofs.LocalWords.{local_letters, local_word, local_spelled, local_brackets, local_number}
use Rattle.parsing.proofs.LocalWords.{local_variable, local_test, local_next}
use Rattle.parsing.proofs.LocalTakes.{Takes, takes_then, takes_halt, takes_either, takes_entry, takes_byte}
use Rattle.parsing.proofs.LocalTakes.{takes_letters, takes_digits, local_behind}

pub record Inner (x : Likeness) (n : ℕ) (rd rd' : Readers) : Type 0 where
  pub expr : (d : ℕ) (e : Ends) (k : Kind) → Local x n (rd.expr d e k) (rd'.expr d e k)
  pub single : (d : ℕ) (e : Ends) (k : Kind) → Local x n (rd.single d e k) (rd'.single d e k)
  pub items :
      (d : ℕ) (e : Ends) (xs : List ℕ) (m : Next) → Local x n (rd.items d e xs m) (rd'.items d e xs m)
  pub terms :
      (d : ℕ) (e : Ends) (c : Bool) (xs : List ℕ) (m : Next)
      → Local x n (rd.terms d e c xs m) (rd'.terms d e c xs m)
  pub factors :
      (d : ℕ) (e : Ends) (c : Bool) (xs : List ℕ) (m : Next)
      → Local x n (rd.factors d e c xs m) (rd'.factors d e c xs m)
  pub steps :
      (e : Ends) (c : Bool) (xs : List ℕ) (m : Next) → Local x n (rd.steps e c xs m) (rd'.steps e c xs m)

module _ {x : Likeness} {n : ℕ} where
  pub local_operand : (xs : List ℕ) (k : Kind) → Local x n (operand xs k) (operand xs k)
  local_operand xs k = local_give (record { made = xs; kind = k })

  pub local_went : (xs : List ℕ) (m : Next) → Local x n (went xs m) (went xs m)
  local_went xs m = local_give (record { made = xs; next = m })

  -- a chain: its side has read a byte, so again comes with fewer
  pub local_turn :
      {side side' : Kind → Reader Went} {again again' : List ℕ → Next → Reader Went} (i : ℕ)
      → ((k : Kind) → Takes x (suc n) (side k) (side' k))
      → ((xs : List ℕ) (m : Next) → Local x n (again xs m) (again' xs m))
      → (xs : List ℕ) (m : Next) → Local x (suc n) (turn i side again xs m) (turn i side' again' xs m)
  local_turn i side again xs m =
      local_either (eqb (tightness m) i)
      (local_behind (side (kind_of m))
      (λ w. again (operation m ++ (xs ++ w.made)) w.next))
      (local_give (record { made = xs; next = m }))

  -- Steps

  pub takes_axis : Takes x (suc n) read_axis read_axis
  takes_axis =
      takes_byte 99 refl (local_spelled (104 ∷ 105 ∷ 108 ∷ 100 ∷ []) Child)
      (takes_byte 100 refl
      (local_then (local_letters (101 ∷ 115 ∷ 99 ∷ 101 ∷ 110 ∷ 100 ∷ 97 ∷ 110 ∷ 116 ∷ []))
      (λ done.
      local_byte 45 (local_spelled (111 ∷ 114 ∷ 45 ∷ 115 ∷ 101 ∷ 108 ∷ 102 ∷ []) DescendantOrSelf)
      (local_give Descendant)))
      (takes_byte 115 refl (local_spelled (101 ∷ 108 ∷ 102 ∷ []) Itself)
      (takes_byte 112 refl
      (local_byte 97 (local_spelled (114 ∷ 101 ∷ 110 ∷ 116 ∷ []) Parent)
      (local_byte 114 (local_spelled (101 ∷ 99 ∷ 101 ∷ 100 ∷ 105 ∷ 110 ∷ 103 ∷ []) Preceding) local_halt))
      (takes_byte 97 refl (local_spelled (110 ∷ 99 ∷ 101 ∷ 115 ∷ 116 ∷ 111 ∷ 114 ∷ []) Ancestor)
      (takes_byte 102 refl (local_spelled (111 ∷ 108 ∷ 108 ∷ 111 ∷ 119 ∷ 105 ∷ 110 ∷ 103 ∷ []) Following)
      takes_halt)))))

  pub takes_step : Takes x (suc n) read_step read_step
  takes_step =
      takes_then (takes_entry symbol takes_axis)
      (λ a.
      local_then (local_word word axis_sign)
      (λ done. local_then (local_entry symbol local_test) (λ p. local_give (record { axis = a; test = p }))))

  -- Operands

  pub local_truth : (b : Bool) (cs : List ℕ) → Local x n (read_truth b cs) (read_truth b cs)
  local_truth b cs =
      local_then (local_letters cs) (λ done. local_brackets (record { made = record_qb b; kind = symbol }))

  pub takes_false : Takes x (suc n) read_false read_false
  takes_false =
      takes_then (takes_letters 97 (108 ∷ 115 ∷ 101 ∷ []) refl)
      (λ done. local_brackets (record { made = record_qb false; kind = symbol }))

  pub local_root : Local x n read_root read_root
  local_root =
      local_then (local_word word open_sign)
      (λ opened.
      local_then (local_entry symbol (local_number 255))
      (λ k.
      local_either (eqb k 0) local_halt
      (local_then (local_word word close_sign) (λ closed. local_operand (record_qr k) symbol))))

module _ {x : Likeness} {n : ℕ} {rd rd' : Readers} (inner : Inner x n rd rd') where
  local_deeper : (d : ℕ) → Local x n (read_deeper rd d) (read_deeper rd' d)
  local_deeper zero = local_halt
  local_deeper (suc d) = local_then (inner.expr d WithList symbol) (λ w. local_operand w.made symbol)

  local_group : (d : ℕ) → Local x n (read_group rd d) (read_group rd' d)
  local_group d = local_entry symbol (local_byte 41 (local_operand record_qe symbol) (local_deeper d))

  local_call : (d : ℕ) (r : List ℕ) → Local x n (read_call rd d r) (read_call rd' d r)
  local_call d r =
      local_then (local_word word open_sign)
      (λ done. local_then (inner.single d WithCall symbol) (λ w. local_operand (r ++ w.made) symbol))

  takes_primary : (d : ℕ) → Takes x (suc n) (read_primary rd d) (read_primary rd' d)
  takes_primary d =
      takes_digits 2147483647 (λ v. local_operand (record_ql v) word)
      (takes_byte 45 refl (local_then (local_number 2147483648) (λ v. local_operand (record_ql (minus_bits v)) word))
      (takes_byte 36 refl (local_then local_variable (λ v. local_operand (record_qv v) name))
      (takes_byte 116 refl (local_truth true (114 ∷ 117 ∷ 101 ∷ []))
      (takes_byte 102 refl (local_truth false (97 ∷ 108 ∷ 115 ∷ 101 ∷ []))
      (takes_byte 40 refl (local_group d)
      (takes_byte 114 refl (local_then (local_letters (111 ∷ 111 ∷ 116 ∷ [])) (λ done. local_root))
      (takes_byte 99 refl
      (local_then (local_letters (111 ∷ 117 ∷ 110 ∷ 116 ∷ [])) (λ done. local_call d record_qc))
      (takes_byte 100 refl
      (local_then (local_letters (97 ∷ 116 ∷ 97 ∷ [])) (λ done. local_call d record_qd))
      takes_halt))))))))

  -- Chains

  pub local_steps :
      (e : Ends) (c : Bool) (xs : List ℕ) (m : Next)
      → Local x (suc n) (more_steps rd e c xs m) (more_steps rd' e c xs m)
  local_steps e c xs m =
      local_either (eqb (tightness m) 4)
      (local_behind takes_step
      (λ s.
      local_then (local_next e c (test_kind s.test))
      (λ l. inner.steps e c (record_qx s.axis s.test ++ xs) l)))
      (local_went xs m)

  takes_path :
      (d : ℕ) (e : Ends) (c begun : Bool) (k : Kind)
      → Takes x (suc n) (read_path rd d e c begun k) (read_path rd' d e c begun k)
  takes_path d e c begun k =
      takes_then (takes_either begun takes_false (takes_entry k (takes_primary d)))
      (λ o. local_then (local_next e c o.kind) (λ m. local_steps e c o.made m))

  pub local_factors :
      (d : ℕ) (e : Ends) (c : Bool) (xs : List ℕ) (m : Next)
      → Local x (suc n) (more_factors rd d e c xs m) (more_factors rd' d e c xs m)
  local_factors d e c = local_turn 3 (takes_path d e c false) (inner.factors d e c)

  takes_product :
      (d : ℕ) (e : Ends) (c begun : Bool) (k : Kind)
      → Takes x (suc n) (read_product rd d e c begun k) (read_product rd' d e c begun k)
  takes_product d e c begun k = takes_then (takes_path d e c begun k) (λ w. local_factors d e c w.made w.next)

  pub local_terms :
      (d : ℕ) (e : Ends) (c : Bool) (xs : List ℕ) (m : Next)
      → Local x (suc n) (more_terms rd d e c xs m) (more_terms rd' d e c xs m)
  local_terms d e c = local_turn 2 (takes_product d e c false) (inner.terms d e c)

  takes_sum :
      (d : ℕ) (e : Ends) (c begun : Bool) (k : Kind)
      → Takes x (suc n) (read_sum rd d e c begun k) (read_sum rd' d e c begun k)
  takes_sum d e c begun k = takes_then (takes_product d e c begun k) (λ w. local_terms d e c w.made w.next)

  local_sides :
      (d : ℕ) (e : Ends) (xs : List ℕ) (m : Next)
      → Local x (suc n) (more_sides rd d e xs m) (more_sides rd' d e xs m)
  local_sides d e = local_turn 1 (takes_sum d e true false) local_went

  takes_sides :
      (d : ℕ) (e : Ends) (begun : Bool) (k : Kind)
      → Takes x (suc n) (read_sides rd d e begun k) (read_sides rd' d e begun k)
  takes_sides d e begun k = takes_then (takes_sum d e false begun k) (λ w. local_sides d e w.made w.next)

  -- Singles

  local_binding :
      (d : ℕ) (e : Ends) (r : ℕ → List ℕ) (w : Word)
      → Local x n (read_binding rd d e r w) (read_binding rd' d e r w)
  local_binding d e r w =
      local_then (local_word word dollar_sign)
      (λ signed.
      local_then local_variable
      (λ v.
      local_then (local_word name w)
      (λ done.
      local_then (inner.single d WithReturn w.kind)
      (λ a.
      local_then (inner.single d e word)
      (λ b. local_went (r v ++ (a.made ++ b.made)) b.next)))))

  local_choice : (d : ℕ) (e : Ends) → Local x n (read_choice rd d e) (read_choice rd' d e)
  local_choice d e =
      local_then (local_word word open_sign)
      (λ opened.
      local_then (inner.expr d WithList symbol)
      (λ c.
      local_then (local_word symbol then_word)
      (λ done.
      local_then (inner.single d WithElse word)
      (λ a.
      local_then (inner.single d e word)
      (λ b. local_went (record_qi ++ (c.made ++ (a.made ++ b.made))) b.next)))))

  pub takes_single :
      (d : ℕ) (e : Ends) (k : Kind) → Takes x (suc n) (read_single rd d e k) (read_single rd' d e k)
  takes_single d e k =
      takes_entry k
      (takes_byte 102 refl
      (local_byte 111 (local_then (local_letters (114 ∷ [])) (λ done. local_binding d e record_qf in_word))
      (local_less (takes_sides d e true symbol).local))
      (takes_byte 108 refl
      (local_then (local_letters (101 ∷ 116 ∷ [])) (λ done. local_binding d e record_qt becomes_sign))
      (takes_byte 105 refl (local_then (local_letters (102 ∷ [])) (λ done. local_choice d e))
      (takes_sides d e false symbol))))

  -- Exprs

  pub local_items :
      (d : ℕ) (e : Ends) (xs : List ℕ) (m : Next)
      → Local x (suc n) (more_items rd d e xs m) (more_items rd' d e xs m)
  local_items d e = local_turn 0 (takes_single d e) (inner.items d e)

  pub local_expr : (d : ℕ) (e : Ends) (k : Kind) → Local x (suc n) (read_expr rd d e k) (read_expr rd' d e k)
  local_expr d e k = local_then (takes_single d e k).local (λ w. local_items d e w.made w.next)
