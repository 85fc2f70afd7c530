pub mod FleetLabels
pub mod FleetHeads
pub mod CrewRows
pub mod FleetReports
pub mod FleetWidths
