-- The typed rows of the rules as rows of cells, and the tables of a run that hold them.
--     encode r               a row (iteration, place, item) as its three cells
--     encode_number n         a number as its cell: an iteration of a loop table, a place, a side, a counter
--     encode_cell z           an item as its cell
--     encode_truth b          a truth as its cell
--     encode_pair f g r       a pair: the cells of its first part, then those of its second
--     encode_numbers, encode_item, encode_choice     rows (number, number), (iteration, item), (iteration, truth)
--     Has ts n f rows        table n of ts is there, and holds the rows, each as f says
--     HasRows ts n rows      .. rows of an expression
--     HasLoop ts n l         .. the iterations of a loop
--     HasPairs ts n rows     .. rows of two numbers
use Rattle.std.specs.Prelude.{ℕ, ◌<◌, ◌≡◌, List, [], ◌∷◌, ◌++◌, map, Bool, ℤ, pos, length, get_or}
use Rattle.cells.specs.Cell.{truth_cell}
use Rattle.meaning.specs.Operators.{Row, Table}
use Rattle.agreement.specs.Typed.{Triple, Loop}

abbrev pub encode : Triple → Row
encode r = pos r.iter ∷ pos r.place ∷ r.item ∷ []

abbrev pub encode_number : ℕ → Row
encode_number n = pos n ∷ []

abbrev pub encode_cell : ℤ → Row
encode_cell z = z ∷ []

abbrev pub encode_truth : Bool → Row
encode_truth b = truth_cell b ∷ []

abbrev pub encode_pair : {A B : Type 0} → (A → Row) → (B → Row) → A × B → Row
encode_pair f g r = f r.0 ++ g r.1

abbrev pub encode_numbers : ℕ × ℕ → Row
encode_numbers = encode_pair encode_number encode_number

abbrev pub encode_item : ℕ × ℤ → Row
encode_item = encode_pair encode_number encode_cell

abbrev pub encode_choice : ℕ × Bool → Row
encode_choice = encode_pair encode_number encode_truth

pub record Has {A : Type 0} (ts : List Table) (n : ℕ) (f : A → Row) (rows : List A) : Type 0 where
  pub there : n < length ts
  pub holds : get_or ts n [] ≡ map f rows

abbrev pub HasRows : List Table → ℕ → List Triple → Type 0
HasRows ts n rows = Has ts n encode rows

abbrev pub HasLoop : List Table → ℕ → Loop → Type 0
HasLoop ts n l = Has ts n encode_number l

abbrev pub HasPairs : List Table → ℕ → List (ℕ × ℕ) → Type 0
HasPairs ts n rows = Has ts n encode_numbers rows
