-- The structure check as one pass over nodes: what may stand where, how many children, and the limits, tested together on the way. What is left after a
-- subtree, or nothing where it is refused (4). Structure.antt says which trees there are; proofs/Same.antt that both agree. Definitions only.
use Rattle.std.specs.Prelude.{Option, Some, None, ℕ, zero, suc, ◌+◌, ◌-◌, ◌/◌, ◌%◌, ◌^◌, ◌≤◌, ◌≡◌, Bool, true, false, cond, not, ◌&&◌, List, [], ◌∷◌, leb, eqb}
use Rattle.std.specs.Int.Bits.{bit_or}
use Rattle.ast.specs.Node.{k_block, k_if, k_for, k_return, k_expr_stmt, k_var_decl, k_fn_decl, k_table, k_array, k_array_access}
use Rattle.ast.specs.Node.{k_array_mut, k_call, k_assign, k_binary, k_unary, k_num, k_text, k_name, k_true, k_false, Kind, k_program, k_elif, k_item, k_stmt, k_right, k_expr, Node, node, number_of}
use Rattle.ast.specs.Structure.{Parsed, Fails, Takes, field}
use Rattle.ast.specs.File.{nodes_from, node_ok}
use Rattle.ast.specs.inner.Room.{Room}
use Rattle.ast.specs.declared.structure.Rest.{Rest}
use Rattle.ast.specs.declared.structure.Plan.{Plan}
use Rattle.lent.specs.Lists.{all}

pub data Remaining : Type 0 where
  wrong : Remaining
  left : List Node → Remaining

abbrev pub kept_if : Bool → Remaining → Remaining
kept_if true x = x
kept_if false x = wrong

abbrev pub then : Remaining → (List Node → Remaining) → Remaining
then wrong f = wrong
then (left ns) f = f ns

abbrev pub times : (List Node → Remaining) → ℕ → List Node → Remaining
times f zero ns = left ns
times f (suc n) ns = then (f ns) (λ ms. times f n ms)

-- what is left where a tree is taken that passes the test
abbrev pub keeping : {A : Type 0} → (A → Bool) → Parsed A → Remaining
keeping ok Fails = wrong
keeping ok (Takes t ns) = kept_if (ok t) (left ns)

-- ---- places: bit k of the number for each kind k that may stand there (proofs/Places.antt has the kinds one by one)

abbrev pub program : ℕ
program = 0x2

abbrev pub block : ℕ
block = 0x4

abbrev pub elif_bits : ℕ
elif_bits = 0x10

abbrev pub statement : ℕ
statement = 0x3ec

abbrev pub item_bits : ℕ
item_bits = 0x800

abbrev pub name : ℕ
name = 0x200000

abbrev pub name_or_call : ℕ
name_or_call = 0x208000

abbrev pub literal_bits : ℕ
literal_bits = 0xd80000

abbrev pub expression : ℕ
expression = 0xffc000

abbrev pub right_side : ℕ
right_side = 0xfff400

abbrev pub stands : ℕ → ℕ → Bool
stands place k = eqb (place / 2 ^ k % 2) 1

-- ---- the children of a node: document 01's column "Children", and the limits

abbrev pub plan_one : Bool → ℕ → ℕ → ℕ → Bool → Plan
plan_one t p n l f = record { fits = t; place = p; first = n; blocks = 0; elifs = 0; rest = 0; loops = l; inside = f }

abbrev pub headed : Bool → ℕ → ℕ → ℕ → Bool → Plan
headed t p n l f = record { fits = t; place = p; first = n; blocks = 1; elifs = 0; rest = 0; loops = l; inside = f }

abbrev pub branching : ℕ → ℕ → ℕ → Bool → Plan
branching c e l f = record { fits = leb (2 + e) c; place = expression; first = 1; blocks = 1; elifs = e; rest = c - (2 + e); loops = l; inside = f }

-- c the child count, e the Elif count, l the loops that may still be nested, f whether inside a function
abbrev pub plan_of : Kind → ℕ → ℕ → ℕ → Bool → Plan
plan_of k_program c e l f = plan_one true statement c l f
plan_of (k_stmt k_block) c e l f = plan_one true statement c l f
plan_of (k_stmt k_if) c e l f = branching c e l f
plan_of k_elif c e l f = headed (eqb c 2) expression 1 l f
plan_of (k_stmt k_for) c e l f = headed (eqb c 2 && leb 1 l) name_or_call 1 (l - 1) f
plan_of (k_stmt k_return) c e l f = plan_one (leb c 1) expression c l f
plan_of (k_stmt k_expr_stmt) c e l f = plan_one (eqb c 1) expression 1 l f
plan_of (k_stmt k_var_decl) c e l f = plan_one (leb c 1) right_side c l f
plan_of (k_stmt k_fn_decl) c e l f = headed (leb 1 c && not f) name (c - 1) l true
plan_of (k_right k_table) c e l f = plan_one (leb c 16) item_bits c l f
plan_of k_item c e l f = plan_one (eqb c 1) expression 1 l f
plan_of (k_right k_array) c e l f = plan_one (leb c 24) literal_bits c l f
plan_of (k_right k_array_access) c e l f = plan_one (eqb c 1) expression 1 l f
plan_of (k_expr k_array_mut) c e l f = plan_one (eqb c 2) expression 2 l f
plan_of (k_expr k_call) c e l f = plan_one true expression c l f
plan_of (k_expr k_assign) c e l f = plan_one (eqb c 1) right_side 1 l f
plan_of (k_expr k_binary) c e l f = plan_one (eqb c 2) expression 2 l f
plan_of (k_expr k_unary) c e l f = plan_one (eqb c 1) expression 1 l f
plan_of (k_expr k_num) c e l f = plan_one (eqb c 0) expression 0 l f
plan_of (k_expr k_text) c e l f = plan_one (eqb c 0) expression 0 l f
plan_of (k_expr k_name) c e l f = plan_one (eqb c 0) expression 0 l f
plan_of (k_expr k_true) c e l f = plan_one (eqb c 0) expression 0 l f
plan_of (k_expr k_false) c e l f = plan_one (eqb c 0) expression 0 l f

-- ---- the keys of one table, as the ones of a number

abbrev pub bit_in : ℕ → ℕ → Bool
bit_in m k = eqb (m / 2 ^ k % 2) 1

abbrev pub bit_of : ℕ → ℕ → ℕ
bit_of m k = bit_or m (2 ^ k)

abbrev pub key_of : List Node → ℕ
key_of [] = 0
key_of (node k_program c b ∷ ns) = 0
key_of (node k_elif c b ∷ ns) = 0
key_of (node k_item c b ∷ ns) = field b 0
key_of (node (k_stmt k) c b ∷ ns) = 0
key_of (node (k_right k) c b ∷ ns) = 0
key_of (node (k_expr k) c b ∷ ns) = 0

-- n Items whose keys are not among m, nor twice among them
abbrev pub keyed_times : (List Node → Remaining) → ℕ → ℕ → List Node → Remaining
keyed_times f m zero ns = left ns
keyed_times f m (suc n) ns = then (f ns) (λ ms. kept_if (not (bit_in m (key_of ns))) (keyed_times f (bit_of m (key_of ns)) n ms))

-- ---- a node: go checks a child at a place, with loops and whether inside a function

abbrev pub children : (ℕ → ℕ → Bool → List Node → Remaining) → Plan → Remaining → Remaining
children go p x =
    then (then (then (then x
    (λ ms. times (λ ks. go p.place p.loops p.inside ks) p.first ms))
    (λ ms. times (λ ks. go block p.loops p.inside ks) p.blocks ms))
    (λ ms. times (λ ks. go elif_bits p.loops p.inside ks) p.elifs ms))
    (λ ms. times (λ ks. go statement p.loops p.inside ks) p.rest ms)

abbrev pub is_table : Kind → Bool
is_table k_program = false
is_table k_elif = false
is_table k_item = false
is_table (k_stmt k) = false
is_table (k_right k_table) = true
is_table (k_right k_array) = false
is_table (k_right k_array_access) = false
is_table (k_expr k) = false

abbrev pub in_limits : (ℕ → ℕ → Bool → List Node → Remaining) → Kind → ℕ → Plan → List Node → Remaining
in_limits go k c p ns =
    cond (is_table k)
    (then (kept_if p.fits (left ns)) (λ ms. keyed_times (λ ks. go item_bits 0 false ks) 0 c ms))
    (children go p (kept_if p.fits (left ns)))

-- d levels are left
abbrev pub pass_over : ℕ → ℕ → ℕ → Bool → List Node → Remaining
pass_over zero place l f ns = wrong
pass_over (suc d) place l f [] = wrong
pass_over (suc d) place l f (node k c b ∷ ns) = kept_if (stands place (number_of k)) (in_limits (λ q m g ms. pass_over d q m g ms) k c (plan_of k c (field b 0) l f) ns)

-- ---- bytes that hold nodes, and answers that agree

pub record Fit (c b : List ℕ) : Type 0 where
  pub texts : ℕ
  pub few : texts ≤ 64
  pub room : Room c b
  pub fields : all (node_ok texts) (nodes_from c b) ≡ true

abbrev pub Fits : Rest → Type 0
Fits p = Fit p.entries.now p.bodies.now

abbrev pub nodes_of : Rest → List Node
nodes_of p = nodes_from p.entries.now p.bodies.now

-- what is left, the nodes that the code leaves, and its answer
pub data Agrees : Remaining → Rest → Option (Unit {0}) → Type 0 where
  refuses : {p : Rest} → Agrees wrong p None
  leaves : {p : Rest} {u : Unit {0}} → Fits p → Agrees (left (nodes_of p)) p (Some u)
