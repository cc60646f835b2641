pub mod WithoutSubsystems
pub mod AloneLaws
pub mod LineLaws
pub mod SurveyLaws
