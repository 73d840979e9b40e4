-- The definitions that the contracts cite, in the document's order. Only private functions cite `PlanComputed`.
pub mod Plan
pub mod AtOnce
pub mod PlanComputed
