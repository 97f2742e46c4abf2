pub mod AcceptedAudiences
pub mod Attributes
pub mod MappedParts
pub mod PassedRules
pub mod AdmittedClaims
pub mod FormedProviders
