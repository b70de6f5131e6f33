-- What is printed of a plan that the translator gave, and what is left in all that was lent (document 01, 'Program
-- `chartask`').
--     engines t query plan doc     the text, where the translator told t: the plan goes to the runner, the query to the
--                                  evaluator
--     planned a x y                x where the translator gave a plan, y where it refused
--     plan_run query doc            the run of the query's plan
--     TextEnds ..                  what both engines' text, cells and kept items are at the end
--     TellsText ..                 what `tell` leaves: the text and its end, and every byte and cell that was lent
use Rattle.std.specs.Prelude.{ℕ, ◌≤◌, ◌≡◌, List, ℤ, length, take}
use Rattle.laws.specs.Rows.{laid}
use Rattle.meaning.specs.Calls.{Answer, gives, refused, Outcome, translate_call, run_call, evaluate_call}
use Rattle.verdicts.specs.Compared.{Told}
use Rattle.lines.specs.Text.{Text, text, same_no, Nowhere}
use Rattle.lines.specs.Printed.{value_of, told_by, run_items, printed}
use Rattle.lines.specs.Placed.{Put}
use Rattle.answers.specs.Second.{second}

unfoldable pub engines : Told → List ℕ → List ℕ → List ℕ → Text
engines t query plan doc =
    let r = run_call plan doc 8192 in
    let e = evaluate_call query doc 8192 in
    text t (told_by 1 r.answer) (run_items r) (told_by 0 e.answer) e.left

unfoldable pub planned : {A : Type 0} → Answer → A → A → A
planned (gives ns) x y = x
planned (refused n p) x y = y

abbrev pub plan_run : List ℕ → List ℕ → Outcome ℤ
plan_run query doc =
    run_call (take (value_of 1 (translate_call query 6144).answer) (translate_call query 6144).left) doc 8192

-- primed: at exit
pub record TextEnds (t : Told) (query plan doc : List ℕ) (kept kept' work' : List ℤ) (text text' : List ℕ)
    (n : ℕ) : Type 0
  where
    pub put : Put text text' 0 (engines t query plan doc) n
    pub work : work' ≡ (second (run_call plan doc 8192).answer (run_call plan doc 8192).left query doc).left
    pub kept_items : kept' ≡ laid kept 0 (run_items (run_call plan doc 8192))

-- after a translator's refusal no engine is called: cells and kept items stay as they stood
pub record TellsText (query doc plan' : List ℕ) (work work' kept kept' : List ℤ) (text text' : List ℕ) (n : ℕ) : Type 0
  where
    pub put : Put text text' 0 (printed doc query) n
    pub prints : take n text' ≡ printed doc query
    pub within : n ≤ length text'
    pub never_no : Nowhere same_no (take n text')
    pub plan : plan' ≡ (translate_call query 6144).left
    pub cells : work'
        ≡ planned (translate_call query 6144).answer
        (second (plan_run query doc).answer (plan_run query doc).left query doc).left work
    pub items : kept'
        ≡ planned (translate_call query 6144).answer (laid kept 0 (run_items (plan_run query doc))) kept
