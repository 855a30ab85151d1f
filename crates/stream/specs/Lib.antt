pub mod Forecast
pub mod ForecastLaws
pub mod SameLaws
