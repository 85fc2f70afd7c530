-- lemmas, each file on one subject
pub mod GroupRows
pub mod PlanLists
pub mod ItemRows
