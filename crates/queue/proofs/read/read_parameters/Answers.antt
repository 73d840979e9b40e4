-- `read_parameters` meets its contract: one parameter behind the other. Assumes nothing.
use Rattle.std.proofs.Common.{◌≤◌, ◌∙◌, length, arith, length-append}
use Rattle.queue.specs.declared.directions.Direction.TheVariants as D
use Rattle.queue.specs.RingComputed.{bytes}
use Rattle.queue.proofs.ReadLaws.{get_some}
use Rattle.queue.proofs.BlockReading.{add_none, along_inside, made_m, made_n, made_theta, made_t, direction_none, direction_some}
use Rattle.queue.proofs.read.read_parameters.Goals as goal
use Rattle.queue.proofs.read.read_parameters.Goals.{In_ok-m, In_ok-n}

-- m and n end inside the bytes
m_ends : (c : In_ok-m) → c.in_ok-m.at_n ≤ length (bytes c.args.held)
m_ends c = let a = c.args in along_inside a.set a.last (bytes a.held) D.M a.at _ _ c.requires c.in_ok-m.ensures

n_ends : (c : In_ok-n) → c.in_ok-n.at_theta ≤ length (bytes c.args.held)
n_ends c = let a = c.args in along_inside a.set a.last (bytes a.held) D.N _ _ _ (m_ends c.before.before.before.before) c.in_ok-n.ensures

pub returns-in_err-m : goal.returns-in_err-m
returns-in_err-m c = let a = c.args in c.from_residual.ensures ∙ add_none a.set a.last (bytes a.held) D.M a.at _ _ c.in_err-m.ensures

pub read_along-requires-2 : goal.read_along-requires-2
read_along-requires-2 c = m_ends (goal.at.read_along-requires-2 c).In_ok-m

pub returns-in_err-n : goal.returns-in_err-n
returns-in_err-n c =
    let a = c.args in
    c.from_residual-in_err-n.ensures ∙ add_none a.set a.last (bytes a.held) D.N _ _ _ c.in_err-n.ensures
    ∙ made_m a.set a.last (bytes a.held) a.x a.y a.at c.in_ok-m.ensures

pub read_along-requires-3 : goal.read_along-requires-3
read_along-requires-3 c = n_ends (goal.at.read_along-requires-3 c).In_ok-n

pub returns-in_err-theta : goal.returns-in_err-theta
returns-in_err-theta c =
    let a = c.args in
    c.from_residual-in_err-theta.ensures ∙ add_none a.set a.last (bytes a.held) D.Theta _ _ _ c.in_err-theta.ensures
    ∙ made_n a.set a.last (bytes a.held) a.x a.y a.at c.in_ok-m.ensures c.in_ok-n.ensures

pub read_along-requires-4 : goal.read_along-requires-4
read_along-requires-4 c =
    let a = c.args in
    along_inside a.set a.last (bytes a.held) D.Theta _ _ _ (n_ends (goal.at.read_along-requires-4 c).In_ok-n) c.in_ok-theta.ensures

pub returns-in_err-t : goal.returns-in_err-t
returns-in_err-t c =
    let a = c.args in
    c.from_residual-in_err-t.ensures ∙ add_none a.set a.last (bytes a.held) D.T _ _ _ c.in_err-t.ensures
    ∙ made_theta a.set a.last (bytes a.held) a.x a.y a.at c.in_ok-m.ensures c.in_ok-n.ensures c.in_ok-theta.ensures

pub returns-in_err-dir : goal.returns-in_err-dir
returns-in_err-dir c =
    let a = c.args in
    c.from_residual-in_err-dir.ensures ∙ direction_none (bytes a.held) _ _ c.in_err-dir.ensures
    ∙ made_t a.set a.last (bytes a.held) a.x a.y a.at c.in_ok-m.ensures c.in_ok-n.ensures c.in_ok-theta.ensures c.in_ok-t.ensures

pub overflow_add-result : goal.overflow_add-result
overflow_add-result c = omega (arith, (get_some (bytes c.args.held) c.in_ok-t.end c.in_ok-dir.dir c.in_ok-dir.ensures).0, length-append c.args.held.older.now c.args.held.newer.now)

pub returns : goal.returns
returns c =
    let a = c.args in
    direction_some (bytes a.held) _ _ _ c.in_ok-dir.ensures
    ∙ made_t a.set a.last (bytes a.held) a.x a.y a.at c.in_ok-m.ensures c.in_ok-n.ensures c.in_ok-theta.ensures c.in_ok-t.ensures
